use Rattle.std.proofs.Common.{◌≡◌, ◌∙◌, ap, refl, subst, sym, true}
use Rattle.lemmas.proofs.Bools.{clash}
use Rattle.class_defs.proofs.Positions.{number_test}
use Rattle.loose_methods.specs.Loose.{is_it, is_this, number_found}
use Rattle.loose_methods.specs.Marking.{AreUnder, is_on}
use Rattle.loose_methods.proofs.Bars.{met_is, one_met, one_unmet}
use Rattle.loose_methods.proofs.candidates.Judged.bar_number.Goals as goal

pub returns-then-not-is_on : goal.returns-then-not-is_on
returns-then-not-is_on c = λ o q j k kind own lt cand number.
    let p = c.args.self.now.program.now in
    one_unmet p q c.args.at.class c.args.loose.now c.args.loose.now c.args.number (ap (number_found p) own ∙ number) (λ m. clash (is_on c.args.loose.now c.args.number) m (sym c.is_on.ensures ∙ c.if-not-is_on.true)) refl

pub returns-then-not-find_met : goal.returns-then-not-find_met
returns-then-not-find_met c = λ o q j k kind own lt cand number.
    let p = c.args.self.now.program.now in
    let on = sym c.is_on.ensures ∙ c.if-not-is_on.false in
    let it : is_it p c.args.number c.args.at ≡ true = ap (is_this c.args.number) number ∙ number_test c.args.number c.args.number refl in
    let under = subst (AreUnder p c.args.at.class) (sym c.as_slice.ensures.value) (c.in_ok-under.ensures j lt) in
    let met = c.find_met.ensures q j k kind under.short ∙ met_is p c.args.self.now.hierarchy.now j.formed j.resolved o c.args.number (cand c.args.number on) q c.args.at own it c.as_slice.result.now under in
    one_unmet p q c.args.at.class c.args.loose.now c.args.loose.now c.args.number (ap (number_found p) own ∙ number) (λ m. sym met ∙ c.if-not-find_met.true) refl

pub returns : goal.returns
returns c = λ o q j k kind own lt cand number.
    let p = c.args.self.now.program.now in
    let on = sym c.is_on.ensures ∙ c.if-not-is_on.false in
    let it : is_it p c.args.number c.args.at ≡ true = ap (is_this c.args.number) number ∙ number_test c.args.number c.args.number refl in
    let under = subst (AreUnder p c.args.at.class) (sym c.as_slice.ensures.value) (c.in_ok-under.ensures j lt) in
    let met = c.find_met.ensures q j k kind under.short ∙ met_is p c.args.self.now.hierarchy.now j.formed j.resolved o c.args.number (cand c.args.number on) q c.args.at own it c.as_slice.result.now under in
    one_met p q c.args.at.class c.args.loose.now c.bar.new.marks c.args.number (ap (number_found p) own ∙ number) (sym met ∙ c.if-not-find_met.false) c.bar.ensures.are c.bar.ensures.long
