use Rattle.std.proofs.Common.{◌≡◌, ◌+◌, ◌++◌, length}
use Rattle.class_defs.specs.Finding.{beside}
use Rattle.hierarchy.specs.Climbing.{ups}
use Rattle.hierarchy.specs.Tables.{read_at, row_of}
use Rattle.hierarchy.specs.Walking.{waits, IsFair}
use Rattle.hierarchy.proofs.Deep.{weight}
use Rattle.hierarchy.proofs.Circles.{Seeking}
use Rattle.hierarchy.proofs.cycle.leads_back.Given as goal

abbrev pub invariant-loop-one : goal.invariant-loop-one
invariant-loop-one l = record {
  fair : IsFair l.fn.walk → IsFair l.walk;
  size : length l.walk.seen.items ≡ length l.fn.walk.seen.items;
  seeking : IsFair l.fn.walk → length l.fn.walk.seen.items ≡ length l.supers → Seeking (ups l.supers l.lists.rows) (length l.supers) l.class l.walk.seen.items (waits l.walk);
}

abbrev pub decreases-loop-one : goal.decreases-loop-one
decreases-loop-one l = weight (λ c. length (row_of l.lists.rows c ++ beside (read_at l.supers c))) 0 l.walk.seen.items + length (waits l.walk)
