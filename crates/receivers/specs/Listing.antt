-- Rows of the classes that list each type.
use Rattle.std.specs.Prelude.{◌≡◌, ◌<◌, ℕ, List, ◌∷◌, length, Some, slice_get}
use Rattle.program_model.specs.declared.program.Class.{Class}
use Rattle.hierarchy.specs.Climbing.{In}
use Rattle.hierarchy.specs.Tables.{row_of}

-- the types directly above a class
abbrev pub kinds_above : Class → List ℕ
kinds_above c = c.superclass ∷ c.interfaces

-- the class at a place lists a type
pub record ListsKind (cs : List Class) (place kind : ℕ) : Type 0 where
  pub class : Class
  pub there : slice_get cs place ≡ Some class
  pub lists : In kind (kinds_above class)

-- each of so many types has a row, which has just the classes in front of a place that list it
pub record AreListed (cs : List Class) (kinds : ℕ) (rows : List (List ℕ)) (end : ℕ) : Type 0 where
  pub size : length rows ≡ kinds
  pub only : (kind place : ℕ) → In place (row_of rows kind) → ListsKind cs place kind × (place < end)
  pub all : (kind place : ℕ) → kind < kinds → place < end → ListsKind cs place kind → In place (row_of rows kind)
