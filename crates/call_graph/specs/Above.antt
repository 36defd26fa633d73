-- What stands above a type by the program's own lists, and walks up to it.
use Rattle.std.specs.Prelude.{◌≡◌, ◌<◌, ◌⊎◌, ℕ, Bool, true, false, not, ◌&&◌, List, [], ◌∷◌, length, Option, Some, None, is_some, nat_eq, slice_index_or, Contains}
use Rattle.std.specs.List.{list_any}
use Rattle.program_model.specs.declared.program.Class.{Class}
use Rattle.program_model.specs.declared.program.Program.{Program}
use Rattle.call_graph.specs.declared.marks.Marks.{Marks}
use Rattle.call_graph.specs.Follows.{class_of}

abbrev pub above_of : Option Class → List ℕ
above_of None = []
above_of (Some c) = c.superclass ∷ c.interfaces

-- the types directly above one, the superclass first
abbrev pub above_kinds : Program → ℕ → List ℕ
above_kinds p kind = above_of (class_of p kind)

-- a walk up from one type to another, by types of the table
pub data Climbs (p : Program) : ℕ → ℕ → Type 0 where
  Itself : (kind : ℕ) → Climbs p kind kind
  Through : (kind next top : ℕ) → kind < length p.types → Contains (above_kinds p kind) next → Climbs p next top → Climbs p kind top

-- a number is marked, and it is marked or past the table
abbrev pub is_on : Marks → ℕ → Bool
is_on m n = slice_index_or m.marks.items n false

abbrev pub is_met : Marks → ℕ → Bool
is_met m n = slice_index_or m.marks.items n true

-- nothing is marked, and nothing waits
pub record IsClean (m : Marks) : Type 0 where
  pub unmarked : (n : ℕ) → is_on m n ≡ true → ⊥
  pub idle : m.waiting.items ≡ []

-- each marked number waits, or is of the list, and what stands above a number of the list is marked
pub record IsWalking (p : Program) (m : Marks) (out : List ℕ) : Type 0 where
  pub marked : (n : ℕ) → is_on m n ≡ true → Contains m.waiting.items n ⊎ Contains out n
  pub above : (n u : ℕ) → Contains out n → Contains (above_kinds p n) u → is_met m u ≡ true

-- each marked number is of the list, and what stands above a number of the list is marked
pub record IsWalked (p : Program) (m : Marks) (out : List ℕ) : Type 0 where
  pub marked : (n : ℕ) → is_on m n ≡ true → Contains out n
  pub above : (n u : ℕ) → Contains out n → Contains (above_kinds p n) u → is_met m u ≡ true

-- a type stands above one of two
abbrev pub IsFrom : Program → ℕ → ℕ → ℕ → Type 0
IsFrom p x y n = Climbs p x n ⊎ Climbs p y n

-- each of some numbers is one of the table that stands above one of two types
abbrev pub AllFrom : Program → ℕ → ℕ → List ℕ → Type 0
AllFrom p x y ns = (n : ℕ) → Contains ns n → IsFrom p x y n × (n < length p.types)

-- the list has all types of the table above a type
abbrev pub HasAbove : Program → ℕ → List ℕ → Type 0
HasAbove p kind out = (u : ℕ) → Climbs p kind u → u < length p.types → Contains out u

-- a type of the framework other than Object is among these
abbrev pub is_outer : Program → ℕ → ℕ → Bool
is_outer p object kind = not (is_some (class_of p kind)) && not (nat_eq kind object)

abbrev pub has_outer : Program → ℕ → List ℕ → Bool
has_outer p object kinds = list_any (is_outer p object) kinds
