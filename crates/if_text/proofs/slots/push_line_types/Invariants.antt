use Rattle.std.proofs.Common.{◌≤◌, List, length}
use Rattle.rule_text.specs.Tokens.{Word}
use Rattle.rule_text.specs.Related.{AreEach, IsTypeOf}
use Rattle.if_text.proofs.Loops.{LeftTypes}
use Rattle.if_text.proofs.slots.push_line_types.Given as goal

abbrev pub invariant-loop-rest : goal.invariant-loop-rest
invariant-loop-rest l = (l.fn.start ≤ length l.out.items) × ((ws : List Word) → AreEach IsTypeOf l.fn.kinds ws → LeftTypes l.fn.start l.rest l.out.items l.fn.out.items ws)

abbrev pub decreases-loop-rest : goal.decreases-loop-rest
decreases-loop-rest l = length l.rest
