-- The table of the classes that define types.
use Rattle.std.specs.Prelude.{◌≡◌, ℕ, ◌<◌, List, length, Option, Some, slice_get}
use Rattle.hierarchy.specs.Tables.{read_at}
use Rattle.hierarchy.specs.declared.build.Hierarchy.{Hierarchy}
use Rattle.class_places.specs.Words.{word_of}

-- the first n entries are what a hierarchy has
pub record ArePlaces (h : Hierarchy) (n : ℕ) (places : List (Option ℕ)) : Type 0 where
  pub long : length places ≡ n
  pub each : (k : ℕ) → k < n → slice_get places k ≡ Some (read_at h.shape.places.items (word_of k))
