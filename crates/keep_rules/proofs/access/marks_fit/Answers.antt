use Rattle.keep_rules.proofs.EachLemmas.{all_end, all_failed, all_passed}
use Rattle.std.specs.Prelude.{map}
use Rattle.rule_text.specs.Related.{IsConditionOf}
use Rattle.dalvik_defs.specs.Naming.{mark_of}
use Rattle.keep_rules.specs.Fits.{mark_holds}
use Rattle.keep_rules.proofs.access.marks_fit.Goals as goal

pub returns-then-not-fits : goal.returns-then-not-fits
returns-then-not-fits c = λ cs are. all_failed IsConditionOf (mark_holds (map (mark_of c.args.program.now) c.args.marks.now)) c.args.conditions.now cs c.loop-condition.condition-index _ _ are c.loop-condition-test.true c.condition-item.is (c.in_ok-fits.ensures) c.if-not-fits.true (c.loop-condition.invariant cs are)

pub loop-condition-preserved : goal.loop-condition-preserved
loop-condition-preserved c = λ cs are. all_passed IsConditionOf (mark_holds (map (mark_of c.args.program.now) c.args.marks.now)) c.args.conditions.now cs c.loop-condition.condition-index _ _ are c.loop-condition-test.true c.condition-item.is (c.in_ok-fits.ensures) c.if-not-fits.false (c.loop-condition.invariant cs are)

pub returns : goal.returns
returns c = λ cs are. all_end IsConditionOf (mark_holds (map (mark_of c.args.program.now) c.args.marks.now)) c.args.conditions.now cs _ are c.loop-condition-test.false (c.loop-condition.invariant cs are)
