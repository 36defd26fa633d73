use Rattle.keep_rules.proofs.EachLemmas.{all_end, all_failed, all_passed}
use Rattle.rule_text.specs.Related.{IsConditionOf}
use Rattle.keep_rules.specs.Fits.{role_of, other_holds}
use Rattle.keep_rules.proofs.access.others_hold.Goals as goal

pub returns-then-not-holds : goal.returns-then-not-holds
returns-then-not-holds c = λ cs are. all_failed IsConditionOf (other_holds (role_of c.args.role) c.args.flags.0) c.args.conditions.now cs c.loop-condition.condition-index _ _ are c.loop-condition-test.true c.condition-item.is (c.other_holds-holds.ensures) c.if-not-holds.true (c.loop-condition.invariant cs are)

pub loop-condition-preserved : goal.loop-condition-preserved
loop-condition-preserved c = λ cs are. all_passed IsConditionOf (other_holds (role_of c.args.role) c.args.flags.0) c.args.conditions.now cs c.loop-condition.condition-index _ _ are c.loop-condition-test.true c.condition-item.is (c.other_holds-holds.ensures) c.if-not-holds.false (c.loop-condition.invariant cs are)

pub returns : goal.returns
returns c = λ cs are. all_end IsConditionOf (other_holds (role_of c.args.role) c.args.flags.0) c.args.conditions.now cs _ are c.loop-condition-test.false (c.loop-condition.invariant cs are)
