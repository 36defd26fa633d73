-- Which positions wait, and the queue in which they stand.
use Rattle.std.specs.Prelude.{◌≡◌, ℕ, ◌+◌, Bool, true, false, List, map, length, Contains, slice_index_or, ◌⊎◌, if◌then◌else◌}
use Rattle.std.specs.List.{sum_by}
use Rattle.std.specs.BinaryHeap.{heap_items}
use Rattle.verify.specs.declared.arrivals.Arrivals.{Arrivals}

abbrev pub queue_of : Arrivals → List ℕ
queue_of a = map (λ r. r.0) (heap_items a.work)

abbrev pub Waits : List Bool → ℕ → Type 0
Waits w n = slice_index_or w n false ≡ true

abbrev pub one_if : Bool → ℕ
one_if b = if b then 1 else 0

-- how many positions wait
abbrev pub count_of : List Bool → ℕ
count_of w = sum_by one_if w

-- what begins to wait is queued, once
pub record Queues (w w' : List Bool) (q q' : List ℕ) : Type 0 where
  pub kept : (n : ℕ) → Contains q n → Contains q' n
  pub queued : (n : ℕ) → Waits w' n → Waits w n ⊎ Contains q' n
  pub counts : length q' + count_of w ≡ length q + count_of w'

abbrev pub Queued : Arrivals → Arrivals → Type 0
Queued a b = Queues a.waiting.items b.waiting.items (queue_of a) (queue_of b)
