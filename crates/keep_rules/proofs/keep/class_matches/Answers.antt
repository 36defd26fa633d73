use Rattle.std.proofs.Common.{◌≡◌, ◌∙◌, ap, subst, sym}
use Rattle.std.specs.Prelude.{IfOk, map}
use Rattle.dalvik_defs.specs.Naming.{mark_of}
use Rattle.rule_text.specs.Related.{AreEach, IsPatternOf, IsConditionOf}
use Rattle.rule_defs.specs.Patterns.{some_name_fits}
use Rattle.keep_rules.specs.Fits.{marks_hold}
use Rattle.keep_rules.proofs.KeepLemmas.{flags_fail, names_fail, marks_decide}
use Rattle.keep_rules.proofs.keep.class_matches.Goals as goal

pub returns-then-not-named : goal.returns-then-not-named
returns-then-not-named c = λ k is under. names_fail c.args.program.now k c.args.class.now c.in_ok-named.named (c.in_ok-named.ensures k.names (subst (λ l. AreEach IsPatternOf l k.names) (sym c.as_slice.ensures.value) is.names) ∙ ap (some_name_fits k.names) c.descriptor.ensures) c.if-not-named.true

pub returns-then-not-fits : goal.returns-then-not-fits
returns-then-not-fits c = λ k is under. flags_fail c.args.program.now k c.args.class.now c.args.under c.flags_fit.result (c.flags_fit.ensures k is) under (sym c.both-fits.ensures ∙ c.if-not-fits.true)

pub returns : goal.returns
returns c = λ k is under.
    let p = c.args.program.now in
    marks_decide p k c.args.class.now c.args.under c.flags_fit.result c.in_ok-named.named c.marks_fit.result (c.flags_fit.ensures k is) under (sym c.both-fits.ensures ∙ c.if-not-fits.false)
    (c.in_ok-named.ensures k.names (subst (λ l. AreEach IsPatternOf l k.names) (sym c.as_slice.ensures.value) is.names) ∙ ap (some_name_fits k.names) c.descriptor.ensures) c.if-not-named.false
    (subst (λ ms. IfOk c.marks_fit.result (λ b. b ≡ marks_hold (map (mark_of p) ms) k.conditions)) c.as_slice-3.ensures (c.marks_fit.ensures k.conditions (subst (λ l. AreEach IsConditionOf l k.conditions) (sym c.as_slice-2.ensures.value) is.conditions)))
