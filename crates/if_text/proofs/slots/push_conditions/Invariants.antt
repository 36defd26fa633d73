use Rattle.std.proofs.Common.{List, length}
use Rattle.rule_text.specs.Rules.{Condition}
use Rattle.rule_text.specs.Related.{AreEach, IsConditionOf}
use Rattle.if_text.specs.Wildcards.{condition_slots}
use Rattle.if_text.proofs.Loops.{Left}
use Rattle.if_text.proofs.slots.push_conditions.Given as goal

abbrev pub invariant-loop-rest : goal.invariant-loop-rest
invariant-loop-rest l = (cs : List Condition) → AreEach IsConditionOf l.fn.conditions cs → Left IsConditionOf condition_slots l.rest l.out.items l.fn.out.items cs

abbrev pub decreases-loop-rest : goal.decreases-loop-rest
decreases-loop-rest l = length l.rest
