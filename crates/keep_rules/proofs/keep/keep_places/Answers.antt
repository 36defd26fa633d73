use Rattle.std.proofs.Common.{subst, sym}
use Rattle.std.specs.List.{flat_map}
use Rattle.rule_text.specs.Related.{AreEach, IsPatternOf}
use Rattle.class_defs.proofs.WellFormed.{sound}
use Rattle.keep_rules.specs.Tried.{FitAmong}
use Rattle.keep_rules.proofs.TriedLemmas.{some_row}
use Rattle.keep_rules.specs.Grown.{GrewAll, rule_marks, class_of_kind}
use Rattle.keep_rules.proofs.KeepLemmas.{tried_all}
use Rattle.keep_rules.proofs.keep.keep_places.Goals as goal

pub returns-in_ok-keep_kinds-in-Some : goal.returns-in_ok-keep_kinds-in-Some
returns-in_ok-keep_kinds-in-Some c = λ k ready is keeps standing.
    let p = c.args.view.now.program.now in
    tried_all p (sound p ready.formed) ready.of.once k c.in-Some.kinds.items c.args.marks.now c.keep_kinds.new.marks (some_row (λ ks. FitAmong p k.class.names ks) c.in_ok-kinds.field-0 c.in-Some.kinds c.in-Some.is (c.in_ok-kinds.ensures k.class.names ready (subst (λ l. AreEach IsPatternOf l k.class.names) (sym c.as_slice.ensures.value) is.class.names)))
    (subst (λ ks. GrewAll (rule_marks p k (flat_map (class_of_kind p) ks)) c.args.marks.now c.keep_kinds.new.marks) c.as_slice-in-Some.ensures.value (c.in_ok-keep_kinds-in-Some.ensures k ready is keeps standing))

pub returns-in-None : goal.returns-in-None
returns-in-None c = λ k ready is keeps standing. c.keep_all.ensures k ready.formed is keeps standing
