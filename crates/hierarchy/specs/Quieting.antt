-- Which classes are initialised trivially, by tables.
use Rattle.std.specs.Prelude.{◌≡◌, ◌<◌, ◌&&◌, ℕ, Bool, false, List, length, not, is_some, slice_index_or}
use Rattle.program_model.specs.declared.program.Program.{Program}
use Rattle.class_defs.specs.Places.{super_place, interface_places}
use Rattle.class_defs.specs.Starts.{initialiser_place, interfaces_quiet}
use Rattle.hierarchy.specs.Climbing.{IsOrder}
use Rattle.hierarchy.specs.Ranks.{IsRanked}
use Rattle.hierarchy.specs.Starting.{HasStarts}
use Rattle.hierarchy.specs.Tables.{read_at, row_of}

-- neither the class nor a program interface above it by interface lists alone has an initialiser
abbrev pub is_quiet : Program → ℕ → Bool
is_quiet p c = not (is_some (initialiser_place p c)) && interfaces_quiet (length p.classes) p (interface_places p c)

-- the tables are those of the program, and the order is one of its classes
pub record Serves (p : Program) (starts supers : List ℕ) (rows : List (List ℕ)) (order : List ℕ) : Type 0 where
  pub starts_are : HasStarts p starts
  pub supers_are : (c : ℕ) → read_at supers c ≡ super_place p c
  pub lists_are : (c : ℕ) → row_of rows c ≡ interface_places p c
  pub long : length supers ≡ length p.classes
  pub starts_long : length starts ≡ length p.classes
  pub ordered : IsOrder supers rows order
  pub ranked : IsRanked p

-- the table says of each class what the test says
pub record Marks (n : ℕ) (test : ℕ → Bool) (table : List Bool) : Type 0 where
  pub is : (c : ℕ) → c < n → slice_index_or table c false ≡ test c
