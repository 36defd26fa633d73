use Rattle.keep_rules.proofs.EachLemmas.{any_end, any_found, any_passed}
use Rattle.rule_text.specs.Related.{IsConditionOf}
use Rattle.rule_defs.specs.Members.{asks_visibility}
use Rattle.keep_rules.proofs.access.some_asks.Goals as goal

pub returns-then-asks : goal.returns-then-asks
returns-then-asks c = λ cs are. any_found IsConditionOf asks_visibility c.args.conditions.now cs c.loop-condition.condition-index _ _ are c.loop-condition-test.true c.condition-item.is (c.asks-asks.ensures) c.if-asks.true (c.loop-condition.invariant cs are)

pub loop-condition-preserved : goal.loop-condition-preserved
loop-condition-preserved c = λ cs are. any_passed IsConditionOf asks_visibility c.args.conditions.now cs c.loop-condition.condition-index _ _ are c.loop-condition-test.true c.condition-item.is (c.asks-asks.ensures) c.if-asks.false (c.loop-condition.invariant cs are)

pub returns : goal.returns
returns c = λ cs are. any_end IsConditionOf asks_visibility c.args.conditions.now cs _ are c.loop-condition-test.false (c.loop-condition.invariant cs are)
