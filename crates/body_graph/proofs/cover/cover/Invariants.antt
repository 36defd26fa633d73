use Rattle.std.proofs.Common.{◌≡◌, ℕ, ◌<◌, ◌&&◌, nat_le, nat_lt, if◌then◌else◌, length, slice_index}
use Rattle.body_graph.proofs.cover.cover.Given as goal

abbrev pub invariant-loop-position : goal.invariant-loop-position
invariant-loop-position l = record {
  long : length l.places.items ≡ length l.initial.places.items;
  given : (n : ℕ) → n < length l.places.items → slice_index l.places.items n ≡ (if nat_le l.region.first n && nat_lt n l.position then l.place else slice_index l.initial.places.items n);
  still : l.end < l.region.first → l.position ≡ l.region.first;
}
