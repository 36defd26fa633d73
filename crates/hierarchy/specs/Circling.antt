-- Which classes are their own ancestors, by the tables of what stands directly above each.
use Rattle.std.specs.Prelude.{◌<◌, ◌≤◌, ℕ, Bool, true, false, List, length, Option, Some, None, slice_index}
use Rattle.hierarchy.specs.Climbing.{In, IsCircle, ups}

-- no class has a higher level than one directly above it
pub record IsRising (supers : List ℕ) (rows : List (List ℕ)) (levels : List ℕ) : Type 0 where
  pub each : (c u : ℕ) → c < length supers → In u (ups supers rows c) → slice_index levels c ≤ slice_index levels u

abbrev pub Decides : List ℕ → List (List ℕ) → ℕ → Bool → Type 0
Decides supers rows class true = IsCircle supers rows class
Decides supers rows class false = IsCircle supers rows class → ⊥

-- the class is its own ancestor, and no earlier one is
pub record IsFirst (supers : List ℕ) (rows : List (List ℕ)) (class : ℕ) : Type 0 where
  pub short : class < length supers
  pub own : IsCircle supers rows class
  pub first : (other : ℕ) → other < class → IsCircle supers rows other → ⊥

abbrev pub IsFirstCircle : List ℕ → List (List ℕ) → Option ℕ → Type 0
IsFirstCircle supers rows None = (class : ℕ) → class < length supers → IsCircle supers rows class → ⊥
IsFirstCircle supers rows (Some class) = IsFirst supers rows class
