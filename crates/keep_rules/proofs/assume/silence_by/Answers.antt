use Rattle.std.proofs.Common.{◌<◌, subst, sym, length}
use Rattle.std.specs.Prelude.{All}
use Rattle.rule_text.specs.Related.{AreEach, IsPatternOf}
use Rattle.class_defs.proofs.WellFormed.{sound}
use Rattle.keep_rules.specs.Tried.{FitAmong}
use Rattle.keep_rules.proofs.TriedLemmas.{some_row}
use Rattle.keep_rules.specs.Grown.{Grew}
use Rattle.keep_rules.proofs.SilentLemmas.{silent_among, types_all}
use Rattle.keep_rules.proofs.assume.silence_by.Goals as goal

pub returns-in_ok-silence_types-in-Some : goal.returns-in_ok-silence_types-in-Some
returns-in_ok-silence_types-in-Some c = λ k ready is.
    let p = c.args.view.now.program.now in
    let fit = some_row (λ ks. FitAmong p k.names ks) c.in_ok-kinds.field-0 c.in-Some.kinds c.in-Some.is (c.in_ok-kinds.ensures k.names ready (subst (λ l. AreEach IsPatternOf l k.names) (sym c.as_slice.ensures.value) is.names)) in
    types_all p (sound p ready.formed) k c.in-Some.kinds.items c.args.silent.now.items c.silence_types.new.silent.items fit
    (subst (λ ks. Grew (silent_among p k ks) c.args.silent.now.items c.silence_types.new.silent.items) c.as_slice-in-Some.ensures.value
    (c.in_ok-silence_types-in-Some.ensures k ready (subst (λ ks. All (λ kind. kind < length p.types) ks) (sym c.as_slice-in-Some.ensures.value) fit.below) is))

pub returns-in-None : goal.returns-in-None
returns-in-None c = λ k ready is. c.silence_all.ensures k ready is
