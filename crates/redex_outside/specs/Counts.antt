-- Counts from 0 to 2^64 - 1 that never fall.
use Rattle.std.specs.Prelude.{ℕ, ◌+◌, ◌-◌, ◌^◌, ◌<◌, ◌≤◌, min, List}

-- The count after one more. It stays at its last value.
abbrev pub raised : ℕ → ℕ
raised count = min (count + 1) (2 ^ 64 - 1)

-- The count has gone up, or stands at its last value.
abbrev pub Rose : ℕ → ℕ → Type 0
Rose old new = raised old ≤ new

-- The count has not fallen, and is one of its values.
pub record NeverFell (old new : ℕ) : Type 0 where
  pub no_less : old ≤ new
  pub in_range : new < 2 ^ 64

-- The same of the count of each name.
abbrev pub NoneFell : (List ℕ → ℕ) → (List ℕ → ℕ) → Type 0
NoneFell old new = (name : List ℕ) → NeverFell (old name) (new name)
