-- The table of the initialisers of the classes.
use Rattle.std.specs.Prelude.{◌≡◌, ℕ, List, Option, None, Some}
use Rattle.program_model.specs.declared.program.Program.{Program}
use Rattle.class_defs.specs.Starts.{initialiser_place}
use Rattle.hierarchy.specs.Tables.{read_at}

abbrev pub place_or_none : Option ℕ → ℕ
place_or_none None = 4294967295
place_or_none (Some i) = i

-- the table has the place of each initialiser
pub record HasStarts (p : Program) (table : List ℕ) : Type 0 where
  pub is : (c : ℕ) → read_at table c ≡ initialiser_place p c
