use Rattle.std.proofs.Common.{◌≡◌, ◌+◌, ◌<◌, ◌^◌, ℕ, length}
use Rattle.hierarchy.specs.Climbing.{todo, ups}
use Rattle.hierarchy.proofs.Deep.{weight}
use Rattle.hierarchy.proofs.Climbs.{From, Walks, cost}
use Rattle.hierarchy.proofs.order.in_order.Given as goal

abbrev pub invariant-loop-class : goal.invariant-loop-class
invariant-loop-class l = record {
  same : length l.climb.seen.items ≡ length l.climb.left.items;
  free : (u : ℕ) → From (ups l.supers l.lists.rows) (length l.supers) (todo l.climb) u;
  going : Walks (ups l.supers l.lists.rows) (length l.supers) l.class l.climb (todo l.climb);
}

abbrev pub invariant-loop-task : goal.invariant-loop-task
invariant-loop-task l = record {
  same : length l.climb.seen.items ≡ length l.climb.left.items;
  going : length l.supers < 2 ^ 32 → Walks (ups l.supers l.lists.rows) (length l.supers) (length l.supers) l.climb (todo l.climb);
}

abbrev pub decreases-loop-task : goal.decreases-loop-task
decreases-loop-task l = weight (cost (ups l.supers l.lists.rows)) 0 l.climb.seen.items + length (todo l.climb)
