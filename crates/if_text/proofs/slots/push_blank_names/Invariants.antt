use Rattle.std.proofs.Common.{List, length}
use Rattle.rule_text.specs.Tokens.{Word}
use Rattle.rule_text.specs.Related.{AreEach, IsPatternOf}
use Rattle.if_text.specs.Wildcards.{blanks, name_wilds}
use Rattle.if_text.proofs.Loops.{Left}
use Rattle.if_text.proofs.slots.push_blank_names.Given as goal

abbrev pub invariant-loop-rest : goal.invariant-loop-rest
invariant-loop-rest l = (ws : List Word) → AreEach IsPatternOf l.fn.names ws → Left IsPatternOf (λ w. blanks (name_wilds w)) l.rest l.out.items l.fn.out.items ws

abbrev pub decreases-loop-rest : goal.decreases-loop-rest
decreases-loop-rest l = length l.rest
