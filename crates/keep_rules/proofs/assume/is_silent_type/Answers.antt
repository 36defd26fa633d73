use Rattle.std.proofs.Common.{◌≡◌, sym, subst}
use Rattle.std.specs.Prelude.{IfOk}
use Rattle.rule_text.specs.Related.{AreEach, IsPatternOf}
use Rattle.class_defs.proofs.WellFormed.{sound}
use Rattle.rule_defs.specs.Patterns.{some_name_fits}
use Rattle.keep_rules.proofs.PlaceLemmas.{not_silent, silent_named}
use Rattle.keep_rules.proofs.assume.is_silent_type.Goals as goal

pub returns-in-Some : goal.returns-in-Some
returns-in-Some c = λ k ready l is. let p = c.args.view.now.program.now in not_silent p (sound p ready.formed) k c.args.kind _ l (sym (c.in-Some.ensures ready.of))

pub returns-in-None : goal.returns-in-None
returns-in-None c = λ k ready l is. let p = c.args.view.now.program.now in
    silent_named p (sound p ready.formed) k c.args.kind c.some_class_fits.result l (sym (c.in-None.ensures ready.of)) (subst (λ t. IfOk c.some_class_fits.result (λ b. b ≡ some_name_fits k.names t)) c.descriptor.ensures (c.some_class_fits.ensures k.names (subst (λ l. AreEach IsPatternOf l k.names) (sym c.as_slice.ensures.value) is.names)))
