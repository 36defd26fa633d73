use Rattle.std.proofs.Common.{◌≡◌, ◌++◌, drop}
use Rattle.splice.specs.Moves.{moves_to}
use Rattle.splice.proofs.moves.moves_to.Given as goal

abbrev pub invariant-loop-slot : goal.invariant-loop-slot
invariant-loop-slot l = l.moves.items ++ moves_to l.shift (drop l.slot-index l.slots) l.next l.rest ≡ moves_to l.shift l.slots l.initial.next l.initial.rest
