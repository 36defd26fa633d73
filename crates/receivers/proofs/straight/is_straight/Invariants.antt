use Rattle.std.proofs.Common.{◌≡◌, ◌<◌, ◌^◌, length, true}
use Rattle.std.specs.List.{list_all, range_with_len}
use Rattle.hierarchy.specs.Shapes.{IsOf}
use Rattle.receivers.specs.Receiving.{is_straight_at}
use Rattle.receivers.proofs.straight.is_straight.Given as goal

abbrev pub invariant-loop-place : goal.invariant-loop-place
invariant-loop-place l = IsOf l.program l.hierarchy → length l.program.classes < 2 ^ 32 → list_all (is_straight_at l.program) (range_with_len 0 l.place) ≡ true
