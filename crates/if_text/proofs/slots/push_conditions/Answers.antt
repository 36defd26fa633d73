use Rattle.std.proofs.Common.{arith}
use Rattle.rule_text.specs.Related.{IsConditionOf}
use Rattle.if_text.specs.Wildcards.{condition_slots}
use Rattle.if_text.proofs.Loops.{left_more, split_first}
use Rattle.if_text.proofs.slots.push_conditions.Goals as goal

pub loop-rest-preserved : goal.loop-rest-preserved
loop-rest-preserved c = λ cs are. left_more IsConditionOf condition_slots _ _ _ c.loop-rest.out.items c.push_condition.new.out.items c.args.out.now.items cs (split_first c.loop-rest.rest.now c.condition-item.result (omega arith) c.condition-item.is) c.in_ok-push_condition.ensures (c.loop-rest.invariant cs are)
