-- The classes of a program by their places, and what stands above them by the program's own lists (Dalvik executable format,
-- "class_def_item").
use Rattle.std.specs.Prelude.{ℕ, zero, suc, Bool, true, List, [], ◌∷◌, length, Option, Some, None, nat_eq, slice_get, option_and_then, cond}
use Rattle.std.specs.List.{list_any}
use Rattle.program_model.specs.declared.program.Class.{Class}
use Rattle.program_model.specs.declared.program.Program.{Program}
use Rattle.program_model.specs.Lookups.{class_place}

-- the place of the program superclass of a class
abbrev pub super_place : Program → ℕ → Option ℕ
super_place p c = option_and_then (λ k. class_place p k.superclass) (slice_get p.classes c)

abbrev pub placed : Option ℕ → List ℕ → List ℕ
placed None cs = cs
placed (Some c) cs = c ∷ cs

-- the places of the program classes among some types
abbrev pub places_of : Program → List ℕ → List ℕ
places_of p [] = []
places_of p (k ∷ ks) = placed (class_place p k) (places_of p ks)

abbrev pub listed : Program → Option Class → List ℕ
listed p None = []
listed p (Some k) = places_of p k.interfaces

-- the places of the program classes that a class lists as interfaces, in its order
abbrev pub interface_places : Program → ℕ → List ℕ
interface_places p c = listed p (slice_get p.classes c)

-- the classes directly above one, the superclass first
abbrev pub above_places : Program → ℕ → List ℕ
above_places p c = placed (super_place p c) (interface_places p c)

-- a class and those above it by a link, the class first, at most so many
abbrev pub chain_from : (ℕ → Option ℕ) → ℕ → Option ℕ → List ℕ
chain_from up zero o = []
chain_from up (suc n) None = []
chain_from up (suc n) (Some c) = c ∷ chain_from up n (up c)

-- a class and its program superclasses, the class first
abbrev pub chain_of : Program → Option ℕ → List ℕ
chain_of p o = chain_from (super_place p) (length p.classes) o

-- a walk of at most so many steps from the first class to the second
abbrev pub walks : (ℕ → List ℕ) → ℕ → ℕ → ℕ → Bool
walks above zero c d = nat_eq c d
walks above (suc n) c d = cond (nat_eq c d) true (list_any (λ u. walks above n u d) (above c))

-- whether a class is under another: it is that class, or a walk through superclasses and interfaces leads there
abbrev pub is_under : Program → ℕ → ℕ → Bool
is_under p c d = walks (above_places p) (length p.classes) c d
