-- A place for each field that a class defines. A number past the largest of a machine word stays at the largest.
use Rattle.std.specs.Prelude.{ℕ, ◌+◌, min, length, List, [], ◌∷◌, Some, None, slice_get}
use Rattle.program_model.specs.declared.program.Class.{Class}
use Rattle.program_model.specs.declared.program.Program.{Program}

-- some more places, at most the largest number
abbrev pub places_on : ℕ → ℕ → ℕ
places_on n more = min (n + more) 18446744073709551615

-- where the fields of each class begin, the first at `n`
abbrev pub slots_from : ℕ → List Class → List ℕ
slots_from n [] = []
slots_from n (c ∷ cs) = n ∷ slots_from (places_on n (length c.fields)) cs

-- the place after all fields of some classes
abbrev pub slots_after : ℕ → List Class → ℕ
slots_after n [] = n
slots_after n (c ∷ cs) = slots_after (places_on n (length c.fields)) cs

-- the place of a field of a class among the fields of all classes
abbrev pub slot_in : List ℕ → ℕ → ℕ → ℕ
slot_in firsts class place = elim (slice_get firsts class) [ Some first ↦ places_on first place | None ↦ 18446744073709551615 ]

abbrev pub slot_of : Program → ℕ → ℕ → ℕ
slot_of p = slot_in (slots_from 0 p.classes)
