-- How marks grow.
use Rattle.std.specs.Prelude.{◌≡◌, ◌⊎◌, ◌<◌, ℕ, List, ◌+◌, ◌≤◌, [], ◌∷◌, ◌++◌, true, false, not, count_by, vec_len, slice_index_or, Contains, Option, MatchOption}
use Rattle.call_targets.specs.declared.marks.Marks.{Marks}

-- how many numbers aren't marked yet or wait
abbrev pub left : Marks → ℕ
left m = count_by not m.marks.items + vec_len m.waiting

-- the table stays as long, and no more is left
abbrev pub Swells : Marks → Marks → Type 0
Swells m m' = (vec_len m'.marks ≡ vec_len m.marks) × (left m' ≤ left m)

-- what is marked stays so, and so does what is marked or past the table; what is newly marked waits, and what waited waits
pub record Keeps (m m' : Marks) : Type 0 where
  pub marked : (n : ℕ) → slice_index_or m.marks.items n false ≡ true → slice_index_or m'.marks.items n false ≡ true
  pub reached : (n : ℕ) → slice_index_or m.marks.items n true ≡ true → slice_index_or m'.marks.items n true ≡ true
  pub new : (n : ℕ) → slice_index_or m'.marks.items n false ≡ true → (slice_index_or m.marks.items n false ≡ true) ⊎ Contains m'.waiting.items n
  pub waits : (n : ℕ) → Contains m.waiting.items n → Contains m'.waiting.items n

-- the marks are the same, and the number that is taken waited last
pub record Pops (m m' : Marks) (r : Option ℕ) : Type 0 where
  pub same : m'.marks ≡ m.marks
  pub taken : MatchOption r (m.waiting.items ≡ []) (λ n. m.waiting.items ≡ m'.waiting.items ++ n ∷ [])

-- the mark of this number alone is gone
pub record IsUnmarked (m m' : Marks) (number : ℕ) : Type 0 where
  pub size : vec_len m'.marks ≡ vec_len m.marks
  pub idle : m'.waiting ≡ m.waiting
  pub unmarked : (n : ℕ) → slice_index_or m'.marks.items n false ≡ true → (slice_index_or m.marks.items n false ≡ true) × (n ≡ number → ⊥)

-- what waits now waited before, or is one of these numbers of the table
pub record WaitsFrom (m m' : Marks) (numbers : List ℕ) : Type 0 where
  pub each : (n : ℕ) → Contains m'.waiting.items n → Contains m.waiting.items n ⊎ (Contains numbers n × (n < vec_len m'.marks))
