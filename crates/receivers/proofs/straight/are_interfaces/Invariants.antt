use Rattle.std.proofs.Common.{◌≡◌, true, take}
use Rattle.std.specs.List.{list_all}
use Rattle.receivers.specs.Receiving.{interface_at}
use Rattle.receivers.proofs.straight.are_interfaces.Given as goal

abbrev pub invariant-loop-place : goal.invariant-loop-place
invariant-loop-place l = list_all (interface_at l.program) (take l.place-index l.places) ≡ true
