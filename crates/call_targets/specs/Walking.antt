-- Walks up from a type by the program's own lists.
use Rattle.std.specs.Prelude.{◌≡◌, ◌<◌, ◌⊎◌, ℕ, Bool, true, false, List, [], length, slice_index_or, Contains}
use Rattle.program_model.specs.declared.program.Program.{Program}
use Rattle.call_graph.specs.Above.{above_kinds, IsFrom}
use Rattle.call_targets.specs.declared.marks.Marks.{Marks}

-- a number is marked, and it is marked or past the table
abbrev pub is_marked : Marks → ℕ → Bool
is_marked m n = slice_index_or m.marks.items n false

abbrev pub is_met : Marks → ℕ → Bool
is_met m n = slice_index_or m.marks.items n true

-- nothing is marked, and nothing waits
pub record IsClean (m : Marks) : Type 0 where
  pub unmarked : (n : ℕ) → is_marked m n ≡ true → ⊥
  pub idle : m.waiting.items ≡ []

-- each marked number waits, or is of the list, and what stands above a number of the list is marked
pub record IsWalking (p : Program) (m : Marks) (out : List ℕ) : Type 0 where
  pub marked : (n : ℕ) → is_marked m n ≡ true → Contains m.waiting.items n ⊎ Contains out n
  pub above : (n u : ℕ) → Contains out n → Contains (above_kinds p n) u → is_met m u ≡ true

-- each marked number is of the list, and what stands above a number of the list is marked
pub record IsWalked (p : Program) (m : Marks) (out : List ℕ) : Type 0 where
  pub marked : (n : ℕ) → is_marked m n ≡ true → Contains out n
  pub above : (n u : ℕ) → Contains out n → Contains (above_kinds p n) u → is_met m u ≡ true

-- the list has all types of the table that stand above one of two
abbrev pub HasFrom : Program → ℕ → ℕ → List ℕ → Type 0
HasFrom p x y out = (u : ℕ) → IsFrom p x y u → u < length p.types → Contains out u
