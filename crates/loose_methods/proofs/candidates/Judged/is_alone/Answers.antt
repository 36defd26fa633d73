use Rattle.std.proofs.Common.{◌≡◌, ◌∙◌, Bool, ap, false, refl, sym, true}
use Rattle.std.specs.Prelude.{◌&&◌, ◌||◌, not}
use Rattle.class_defs.specs.Members.{is_common}
use Rattle.loose_methods.specs.Loose.{has_outward, has_rival, is_in_interface}
use Rattle.loose_methods.proofs.Under.{alone_is, kept_is, kept_of, definers_short}
use Rattle.loose_methods.proofs.candidates.Judged.is_alone.Goals as goal

none_common : (a c : Bool) → (not a && not true && not c) ≡ false
none_common true c = refl
none_common false c = refl

pub returns-then-outward : goal.returns-then-outward
returns-then-outward c = λ q j k under outward.
    let p = c.args.self.now.program.now in
    let d = c.args.place.now.class in
    alone_is p q d true (is_common p q.name q.proto) (has_rival p q d || is_in_interface p q d) (sym c.if-outward.true ∙ outward) refl refl

pub returns-then-is_key_of_object : goal.returns-then-is_key_of_object
returns-then-is_key_of_object c = λ q j k under outward.
    let p = c.args.self.now.program.now in
    let d = c.args.place.now.class in
    sym (none_common (has_outward p d) (has_rival p q d || is_in_interface p q d))
    ∙ alone_is p q d (has_outward p d) true (has_rival p q d || is_in_interface p q d) refl (sym c.if-is_key_of_object.true ∙ c.is_key_of_object.ensures.is p q.name q.proto j.resolved.of k) refl

pub returns : goal.returns
returns c = λ q j k under outward.
    let p = c.args.self.now.program.now in
    let d = c.args.place.now.class in
    let definers = c.definers_of.ensures p q.name q.proto j.resolved.of k in
    let kept = c.is_kept_from.ensures q j k under (definers_short p q c.definers_of.result.now definers) ∙ (ap (λ xs. kept_of p q d c.args.place.now.under.now xs) definers ∙ kept_is p q d c.args.place.now.under.now under) in
    alone_is p q d false false c.is_kept_from.result (sym c.if-outward.false ∙ outward) (sym c.if-is_key_of_object.false ∙ c.is_key_of_object.ensures.is p q.name q.proto j.resolved.of k) kept
