use Rattle.std.proofs.Common.{◌≡◌, ◌<◌, length}
use Rattle.if_text.specs.Parts.{number_from}
use Rattle.if_text.proofs.parts.number_of.Given as goal

abbrev pub invariant-loop-rest : goal.invariant-loop-rest
invariant-loop-rest l = (number_from l.number l.rest ≡ number_from 0 l.fn.digits) × (l.number < 20000)

abbrev pub decreases-loop-rest : goal.decreases-loop-rest
decreases-loop-rest l = length l.rest
