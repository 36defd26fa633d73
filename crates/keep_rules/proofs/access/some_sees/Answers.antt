use Rattle.keep_rules.proofs.EachLemmas.{any_end, any_found, any_passed}
use Rattle.rule_text.specs.Related.{IsConditionOf}
use Rattle.keep_rules.specs.Fits.{role_of, sees}
use Rattle.keep_rules.proofs.access.some_sees.Goals as goal

pub returns-then-sees : goal.returns-then-sees
returns-then-sees c = λ cs are. any_found IsConditionOf (sees (role_of c.args.role) c.args.flags.0) c.args.conditions.now cs c.loop-condition.condition-index _ _ are c.loop-condition-test.true c.condition-item.is (c.sees-sees.ensures) c.if-sees.true (c.loop-condition.invariant cs are)

pub loop-condition-preserved : goal.loop-condition-preserved
loop-condition-preserved c = λ cs are. any_passed IsConditionOf (sees (role_of c.args.role) c.args.flags.0) c.args.conditions.now cs c.loop-condition.condition-index _ _ are c.loop-condition-test.true c.condition-item.is (c.sees-sees.ensures) c.if-sees.false (c.loop-condition.invariant cs are)

pub returns : goal.returns
returns c = λ cs are. any_end IsConditionOf (sees (role_of c.args.role) c.args.flags.0) c.args.conditions.now cs _ are c.loop-condition-test.false (c.loop-condition.invariant cs are)
