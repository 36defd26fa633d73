use Rattle.std.proofs.Common.{◌≡◌, ◌+◌, ◌*◌, ◌≤◌, length, All}
use Rattle.dex_pools.specs.Value.{counted, element_in, value_at}
use Rattle.dex_pools.specs.ValueRange.{ValueInRange, ElementInRange}
use Rattle.dex_pools.specs.Run.{run}
use Rattle.dex_pools.proofs.Loop.{Reads}
use Rattle.dex_pools.proofs.value.+values.Given as goal

-- by the depth that is left, and then each function above those that it calls
abbrev pub decreases-value_of : goal.decreases-value_of
decreases-value_of l = 10 * l.depth

abbrev pub decreases-tagged_of : goal.decreases-tagged_of
decreases-tagged_of l = 10 * l.depth + 5

abbrev pub decreases-kind_of : goal.decreases-kind_of
decreases-kind_of l = 10 * l.depth + 4

abbrev pub decreases-array_of : goal.decreases-array_of
decreases-array_of l = 10 * l.depth + 3

abbrev pub decreases-values_of : goal.decreases-values_of
decreases-values_of l = 10 * l.depth + 2

abbrev pub decreases-counted_of : goal.decreases-counted_of
decreases-counted_of l = 10 * l.depth + 1

abbrev pub decreases-note_of : goal.decreases-note_of
decreases-note_of l = 10 * l.depth + 3

abbrev pub decreases-elements_of : goal.decreases-elements_of
decreases-elements_of l = 10 * l.depth + 2

abbrev pub decreases-element_of : goal.decreases-element_of
decreases-element_of l = 10 * l.depth + 1

abbrev pub invariant-values_of-values : goal.invariant-values_of-values
invariant-values_of-values l = record {
  reads : Reads (counted (value_at l.depth l.bytes l.sizes)) l.found.items l.count l.counter (l.place, l.left) (run (counted (value_at l.depth l.bytes l.sizes)) 0 l.count (l.fn.at, l.fn.left));
  range : All (ValueInRange l.sizes) l.found.items;
  behind : l.at ≤ l.place;
  inside : l.place ≤ length l.bytes;
}

abbrev pub invariant-elements_of-elements : goal.invariant-elements_of-elements
invariant-elements_of-elements l = record {
  reads : Reads (element_in (value_at l.depth l.bytes l.sizes) l.bytes l.sizes) l.found.items l.count l.counter (l.place, l.left) (run (element_in (value_at l.depth l.bytes l.sizes) l.bytes l.sizes) 0 l.count (l.fn.at, l.fn.left));
  sized : length l.found.items ≡ l.counter;
  range : All (ElementInRange l.sizes) l.found.items;
  behind : l.at ≤ l.place;
  inside : l.place ≤ length l.bytes;
}
