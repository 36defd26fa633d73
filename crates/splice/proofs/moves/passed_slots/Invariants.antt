use Rattle.std.proofs.Common.{◌≡◌, ◌++◌, map, drop}
use Rattle.splice.specs.Moves.{slot_of, receiver_slots}
use Rattle.splice.proofs.moves.passed_slots.Given as goal

abbrev pub invariant-loop-kind : goal.invariant-loop-kind
invariant-loop-kind l = l.slots.items ++ map (slot_of l.program) (drop l.kind-index l.kind-items) ≡ receiver_slots l.method ++ map (slot_of l.program) l.kind-items
