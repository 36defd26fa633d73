-- The tables of the classes by type and of what stands directly above each, from the program's lists.
use Rattle.std.specs.Prelude.{ℕ, suc, List, [], ◌∷◌, slice_set, is_some, cond}
use Rattle.std.proofs.Common.{Result, Ok, Err}
use Rattle.program_model.specs.declared.program.Class.{Class}
use Rattle.class_defs.specs.Places.{placed}
use Rattle.hierarchy.specs.Tables.{read_at}

-- the table with these classes too, of which the first has this place, or the place of the first whose type has one already
abbrev pub place_from : ℕ → List Class → List ℕ → Result (List ℕ) ℕ
place_from i [] table = Ok table
place_from i (c ∷ cs) table = cond (is_some (read_at table c.name)) (Err i) (place_from (suc i) cs (slice_set table c.name i))

-- the places that a table has for these types
abbrev pub known_places : List ℕ → List ℕ → List ℕ
known_places table [] = []
known_places table (k ∷ ks) = placed (read_at table k) (known_places table ks)
