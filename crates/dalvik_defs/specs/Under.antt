-- Which types are above which (this project's profile). A type is under itself and under all that is met on the walk
-- through superclasses and interfaces: those of a program class by its own lists, those of another type by its first
-- row. A type without a row is directly under Object.
use Rattle.std.specs.Prelude.{ℕ, zero, suc, ◌+◌, Bool, true, false, ◌&&◌, ◌||◌, not, List, [], ◌∷◌, ◌++◌, map, length, Option, Some, None, find}
use Rattle.std.specs.List.{list_any}
use Rattle.dalvik_defs.specs.Names.{Text, text_eq, object_type, is_reference, is_array}
use Rattle.dalvik_defs.specs.Known.{known_rows}
use Rattle.dalvik_defs.specs.declared.program.NamedClass.{NamedClass}
use Rattle.dalvik_defs.specs.declared.program.NamedProgram.{NamedProgram}
use Rattle.dalvik_defs.specs.declared.tables.FrameworkType.{FrameworkType}
use Rattle.dalvik_defs.specs.declared.tables.Framework.{Framework}

-- the first class of a name
abbrev pub class_named : NamedProgram → Text → Option NamedClass
class_named p t = find (λ c. text_eq c.name t) p.classes

abbrev pub defines : NamedProgram → Text → Bool
defines p t = elim (class_named p t) [ Some c ↦ true | None ↦ false ]

-- the first row of a type
abbrev pub row_named : Framework → Text → Option FrameworkType
row_named f t = find (λ r. text_eq r.name t) (known_rows ++ f.rows)

-- a program class that a row names counts as Object
abbrev pub outer_type : NamedProgram → Text → Text
outer_type p t = elim (defines p t) [ true ↦ object_type | false ↦ t ]

abbrev pub above_row : NamedProgram → Text → Option FrameworkType → List Text
above_row p t (Some r) = map (outer_type p) (r.superclass ∷ r.interfaces)
above_row p t None = object_type ∷ []

-- the types directly above one
abbrev pub above_in : NamedProgram → Framework → Text → Option NamedClass → List Text
above_in p f t (Some c) = c.superclass ∷ c.interfaces
above_in p f t None = elim (text_eq t object_type) [ true ↦ [] | false ↦ above_row p t (row_named f t) ]

abbrev pub directly_above : NamedProgram → Framework → Text → List Text
directly_above p f t = above_in p f t (class_named p t)

-- a walk of at most so many steps that ends at a type
abbrev pub walks : (Text → List Text) → ℕ → Text → Text → Bool
walks above zero s t = text_eq s t
walks above (suc n) s t = elim (text_eq s t) [ true ↦ true | false ↦ list_any (λ u. walks above n u t) (above s) ]

-- more steps than there are types in a walk that meets none twice
abbrev pub walk_bound : NamedProgram → Framework → ℕ
walk_bound p f = length p.classes + (length (known_rows ++ f.rows) + 2)

abbrev pub class_under : NamedProgram → Framework → Text → Text → Bool
class_under p f s t = walks (directly_above p f) (walk_bound p f) s t

-- An array is under Object, under an equal type, and under each array of references whose item type is above its own. It
-- is under no interface.
abbrev pub under_types : (Text → Text → Bool) → Text → Text → Bool
under_types under [] t = false
under_types under (u ∷ s) [] = false
under_types under (u ∷ s) (v ∷ t) = elim (is_array (u ∷ s)) [
  | false ↦ not (is_array (v ∷ t)) && under (u ∷ s) (v ∷ t)
  | true ↦ text_eq (u ∷ s) (v ∷ t) || text_eq (v ∷ t) object_type || (is_array (v ∷ t) && is_reference s && is_reference t && under_types under s t)
]

-- whether a type is under another
abbrev pub is_under : NamedProgram → Framework → Text → Text → Bool
is_under p f = under_types (class_under p f)

-- the same by the program's own lists alone
abbrev pub own_above : NamedProgram → Text → List Text
own_above p t = elim (class_named p t) [ Some c ↦ c.superclass ∷ c.interfaces | None ↦ [] ]

abbrev pub is_own_under : NamedProgram → Text → Text → Bool
is_own_under p s t = walks (own_above p) (length p.classes) s t

-- whether a type that the program doesn't define, other than Object, stands directly above a class
abbrev pub touches_framework : NamedProgram → NamedClass → Bool
touches_framework p c = list_any (λ t. not (defines p t) && not (text_eq t object_type)) (c.superclass ∷ c.interfaces)

abbrev pub reaches_framework : ℕ → NamedProgram → Text → Bool
reaches_framework zero p t = false
reaches_framework (suc n) p t = elim (class_named p t) [
  | Some c ↦ touches_framework p c || list_any (reaches_framework n p) (c.superclass ∷ c.interfaces)
  | None ↦ false
]

-- whether a program class has a framework ancestor other than Object
abbrev pub is_outward : NamedProgram → Text → Bool
is_outward p t = reaches_framework (length p.classes) p t
