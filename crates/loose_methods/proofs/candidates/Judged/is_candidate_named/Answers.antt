use Rattle.std.proofs.Common.{◌≡◌, ◌∙◌, Bool, ap, false, refl, sym, true}
use Rattle.std.specs.Prelude.{◌&&◌, ◌||◌, not}
use Rattle.lemmas.proofs.Bools.{not_false, not_true}
use Rattle.program_model.specs.MemberRules.{is_direct}
use Rattle.loose_methods.specs.Candidates.{takes_receiver}
use Rattle.loose_methods.specs.Loose.{is_alone}
use Rattle.loose_methods.specs.Marking.{is_on}
use Rattle.loose_methods.proofs.candidates.Judged.is_candidate_named.Goals as goal

tested_by : (t k d a b c e f : Bool) → t ≡ b → k ≡ c → d ≡ e → a ≡ f → (t && not k && (d || a)) ≡ (b && not c && (e || f))
tested_by t k d a b c e f x y z w = ap (λ v. v && not k && (d || a)) x ∙ (ap (λ v. b && not v && (d || a)) y ∙ (ap (λ v. b && not c && (v || a)) z ∙ ap (λ v. b && not c && (e || v)) w))

pub returns-then-not-takes_receiver : goal.returns-then-not-takes_receiver
returns-then-not-takes_receiver c = λ j e under outward.
    let p = c.args.self.now.program.now in
    let m = c.args.method.now in
    let q = c.args.name.now in
    sym (tested_by (takes_receiver p q m) (is_on c.args.kept.now m.name) (is_direct p m) (is_alone p q c.args.place.now.class) false (is_on c.args.kept.now m.name) (is_direct p m) (is_alone p q c.args.place.now.class) (sym c.takes_receiver.ensures ∙ c.if-not-takes_receiver.true) refl refl refl)

pub returns-then-is_on : goal.returns-then-is_on
returns-then-is_on c = λ j e under outward.
    let p = c.args.self.now.program.now in
    let m = c.args.method.now in
    let q = c.args.name.now in
    sym (tested_by (takes_receiver p q m) (is_on c.args.kept.now m.name) (is_direct p m) (is_alone p q c.args.place.now.class) true true (is_direct p m) (is_alone p q c.args.place.now.class) (sym c.takes_receiver.ensures ∙ c.if-not-takes_receiver.false) (sym c.is_on.ensures ∙ c.if-is_on.true) refl refl)

pub returns-then-not-is_virtual : goal.returns-then-not-is_virtual
returns-then-not-is_virtual c = λ j e under outward.
    let p = c.args.self.now.program.now in
    let m = c.args.method.now in
    let q = c.args.name.now in
    let direct : is_direct p m ≡ true = not_false (is_direct p m) (sym (c.is_virtual.ensures p j.resolved.of) ∙ c.if-not-is_virtual.true) in
    sym (tested_by (takes_receiver p q m) (is_on c.args.kept.now m.name) (is_direct p m) (is_alone p q c.args.place.now.class) true false true (is_alone p q c.args.place.now.class) (sym c.takes_receiver.ensures ∙ c.if-not-takes_receiver.false) (sym c.is_on.ensures ∙ c.if-is_on.false) direct refl)

pub returns : goal.returns
returns c = λ j e under outward.
    let p = c.args.self.now.program.now in
    let m = c.args.method.now in
    let q = c.args.name.now in
    let direct : is_direct p m ≡ false = not_true (is_direct p m) (sym (c.is_virtual.ensures p j.resolved.of) ∙ c.if-not-is_virtual.false) in
    c.is_alone.ensures q j (c.key_of_method.ensures.is p q e) under outward
    ∙ sym (tested_by (takes_receiver p q m) (is_on c.args.kept.now m.name) (is_direct p m) (is_alone p q c.args.place.now.class) true false false (is_alone p q c.args.place.now.class) (sym c.takes_receiver.ensures ∙ c.if-not-takes_receiver.false) (sym c.is_on.ensures ∙ c.if-is_on.false) direct refl)
