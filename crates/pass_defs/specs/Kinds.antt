-- The kinds of what registers hold, their order, and which kinds fit a type (Dalvik executable format,
-- "TypeDescriptor"; this project's profile).
use Rattle.std.specs.Prelude.{ℕ, zero, suc, Bool, true, false, ◌&&◌, ◌||◌, not, if◌then◌else◌, nat_eq, nat_lt, List, [], ◌∷◌, length, Option, Some, None, find}
use Rattle.std.specs.List.{list_any}
use Rattle.std.specs.Option.{option_map}
use Rattle.dalvik_defs.specs.Names.{Text, text_eq, object_type, is_word, is_wide, is_reference, is_array, base_of, array_of}
use Rattle.dalvik_defs.specs.Flags.{is_interface}
use Rattle.dalvik_defs.specs.Under.{class_named}
use Rattle.dalvik_defs.specs.declared.program.NamedClass.{NamedClass}
use Rattle.dalvik_defs.specs.declared.program.NamedProgram.{NamedProgram}

pub data Kind : Type 0 where
  -- no instruction may read it
  Undefined : Kind
  -- the constant 0, a word and null at once
  Zero : Kind
  Word : Kind
  -- the halves of a wide
  Low : Kind
  High : Kind
  Null : Kind
  -- an object of a program class or of a class under it; only a join of two classes makes it that of an interface
  Class : (name : Text) → Kind
  Array : (type : Text) → Kind
  -- any object
  Reference : Kind
  -- an object that no constructor was called on: made at a position, or the receiver of a constructor
  Fresh : (name : Text) (position : ℕ) → Kind
  FreshThis : Kind

abbrev pub kind_eq : Kind → Kind → Bool
kind_eq Undefined Undefined = true
kind_eq Zero Zero = true
kind_eq Word Word = true
kind_eq Low Low = true
kind_eq High High = true
kind_eq Null Null = true
kind_eq (Class s) (Class t) = text_eq s t
kind_eq (Array s) (Array t) = text_eq s t
kind_eq Reference Reference = true
kind_eq (Fresh s n) (Fresh t m) = text_eq s t && nat_eq n m
kind_eq FreshThis FreshThis = true
kind_eq a b = false

abbrev pub is_number : Kind → Bool
is_number Zero = true
is_number Word = true
is_number k = false

-- null, or an object that a constructor was called on
abbrev pub is_initialised : Kind → Bool
is_initialised Zero = true
is_initialised Null = true
is_initialised (Class t) = true
is_initialised (Array t) = true
is_initialised Reference = true
is_initialised k = false

-- the constant 0, or null
abbrev pub is_null : Kind → Bool
is_null Zero = true
is_null Null = true
is_null k = false

-- ---- types

-- how many brackets an array type has
abbrev pub depth : Text → ℕ
depth [] = 0
depth (u ∷ us) = elim (nat_eq u 91) [ true ↦ suc (depth us) | false ↦ 0 ]

abbrev pub arrays_of : ℕ → Text → Text
arrays_of zero t = t
arrays_of (suc n) t = array_of (arrays_of n t)

-- a program class that is no interface
abbrev pub is_plain : NamedProgram → Text → Bool
is_plain p t = elim (class_named p t) [ Some c ↦ not (is_interface c.flags) | None ↦ false ]

abbrev pub is_program_interface : NamedProgram → Text → Bool
is_program_interface p t = elim (class_named p t) [ Some c ↦ is_interface c.flags | None ↦ false ]

abbrev pub kind_of_reference : NamedProgram → Text → Kind
kind_of_reference p t = if is_array t then Array t else if is_plain p t then Class t else Reference

-- the kind of a type; the low half stands for both halves of a wide
abbrev pub kind_of : NamedProgram → Text → Kind
kind_of p t = if is_word t then Word else if is_wide t then Low else if is_reference t then kind_of_reference p t else Undefined

-- ---- joins

-- A class and those that stand above it for kinds, the class first, at most so many: its program superclasses up to the
-- first interface, above which none stands. So a kind is never at or below one that is reached through an interface.
abbrev pub line_from : ℕ → NamedProgram → Text → List NamedClass
line_from zero p t = []
line_from (suc n) p t = elim (class_named p t) [
  | Some c ↦ c ∷ (if is_interface c.flags then [] else line_from n p c.superclass)
  | None ↦ []
]

abbrev pub line_of : NamedProgram → Text → List NamedClass
line_of p t = line_from (length p.classes) p t

-- the nearest class that stands above both, or is one of them and stands above the other
abbrev pub nearest : NamedProgram → Text → Text → Option Text
nearest p s t = option_map (λ c. c.name) (find (λ c. list_any (λ d. text_eq c.name d.name) (line_of p t)) (line_of p s))

-- an array of one dimension with primitive items
abbrev pub is_flat : Text → Bool
is_flat t = nat_eq (depth t) 1 && not (is_reference (base_of t))

abbrev pub object_array : Text
object_array = array_of object_type

abbrev pub joined_deep : Text → Text → Kind
joined_deep s t = if is_flat s || is_flat t then Reference else Array object_array

abbrev pub joined_items : Text → Text → Option Text → Kind
joined_items s t (Some c) = Array (arrays_of (depth s) c)
joined_items s t None = joined_deep s t

-- two unlike arrays
abbrev pub joined_arrays : NamedProgram → Text → Text → Kind
joined_arrays p s t = elim (nat_eq (depth s) (depth t)) [
  | true ↦ joined_items s t (nearest p (base_of s) (base_of t))
  | false ↦ joined_deep s t
]

abbrev pub class_or_reference : Option Text → Kind
class_or_reference (Some t) = Class t
class_or_reference None = Reference

-- two unlike initialised references
abbrev pub joined_references : NamedProgram → Kind → Kind → Kind
joined_references p Zero b = b
joined_references p a Zero = a
joined_references p Null b = b
joined_references p a Null = a
joined_references p (Class s) (Class t) = class_or_reference (nearest p s t)
joined_references p (Array s) (Array t) = joined_arrays p s t
joined_references p a b = Reference

abbrev pub joined : NamedProgram → Kind → Kind → Kind
joined p a b =
    if kind_eq a b then a
    else if is_number a && is_number b then Word
    else if is_initialised a && is_initialised b then joined_references p a b
    else Undefined

-- at or below
abbrev pub is_below : NamedProgram → Kind → Kind → Bool
is_below p a b = kind_eq (joined p a b) b

-- ---- what fits a type

-- an item that is a reference fits one
abbrev pub item_fits : NamedProgram → Text → Text → Bool
item_fits p s t = is_reference s && is_reference t && (not (is_plain p t) || is_below p (kind_of p s) (Class t))

abbrev pub array_fits : NamedProgram → Text → Text → Bool
array_fits p s t =
    if nat_eq (depth s) (depth t) then (text_eq s t || item_fits p (base_of s) (base_of t))
    else nat_lt (depth t) (depth s) && is_reference (base_of t) && not (is_plain p (base_of t))

abbrev pub fits_array : NamedProgram → Kind → Text → Bool
fits_array p Zero t = true
fits_array p Null t = true
fits_array p (Array s) t = array_fits p s t
fits_array p k t = false

-- a value that isn't wide fits a type
abbrev pub fits : NamedProgram → Kind → Text → Bool
fits p k t =
    if is_word t then is_number k
    else if is_array t then fits_array p k t
    else if is_plain p t then is_below p k (Class t)
    else is_initialised k

-- The receiver of a field's get or put fits the field's class. No kind but null's is under a program interface, so a field
-- that is named by one is read and written on null alone.
abbrev pub fits_holder : NamedProgram → Kind → Text → Bool
fits_holder p k t = fits p k t && (not (is_program_interface p t) || is_null k)
