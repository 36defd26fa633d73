-- Lists that have each number once.
use Rattle.std.specs.Prelude.{◌≡◌, ℕ, Bool, true, false, ◌<◌, List, length, count_by, All, Contains, slice_index, slice_index_or}

-- no number stands at two places
abbrev pub AreDistinct : List ℕ → Type 0
AreDistinct order = (i j : ℕ) → i < length order → j < length order → slice_index order i ≡ slice_index order j → i ≡ j

-- each number below `nodes` once, and nothing else
pub record ListsOnce (nodes : ℕ) (order : List ℕ) : Type 0 where
  pub long : length order ≡ nodes
  pub within : All (λ n. n < nodes) order
  pub all : (n : ℕ) → n < nodes → Contains order n
  pub once : AreDistinct order

abbrev pub itself : Bool → Bool
itself b = b

-- the numbers that are marked, each once
pub record Lists (seen : List Bool) (order : List ℕ) : Type 0 where
  pub within : All (λ n. n < length seen) order
  pub marked : (n : ℕ) → slice_index_or seen n false ≡ true → Contains order n
  pub kept : All (λ n. slice_index_or seen n false ≡ true) order
  pub once : AreDistinct order
  pub counted : length order ≡ count_by itself seen

-- the place of each number
abbrev pub ArePlaces : List ℕ → List ℕ → Type 0
ArePlaces order places = (k : ℕ) → k < length order → slice_index places (slice_index order k) ≡ k
