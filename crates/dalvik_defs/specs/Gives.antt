-- The values that the framework gives, and which of them fit a type (this project's profile).
use Rattle.std.specs.Prelude.{ℕ, Bool, true, false, ◌&&◌, ◌||◌, not, List, [], ◌∷◌, length, Some, None, slice_get, nat_lt}
use Rattle.dalvik_defs.specs.Names.{Text, is_reference, is_class_type, is_array, is_wide, is_word, base_of, throwable_type}
use Rattle.dalvik_defs.specs.Face.{Face, is_defined, is_plain_class}
use Rattle.dalvik_defs.specs.Outer.{Outer}
use Rattle.dalvik_defs.specs.State.{World, Value, Word, Low, High, Object, Literal, Class, fresh, next_object, is_null, kind_of}
use Rattle.dalvik_defs.specs.ActArray.{zeros}
use Rattle.dalvik_defs.specs.Show.{with_given}
use Rattle.dalvik_defs.specs.declared.script.Given.{Given}
use Rattle.dalvik_defs.specs.declared.script.Given.TheVariants as given

-- the object at a place of the exposed ones
abbrev pub exposed_at : World → ℕ → Value
exposed_at w n = elim (slice_get w.exposed n) [ Some e ↦ Object e.number | None ↦ Word 0 ]

-- a value, and the world with it
abbrev pub gets : World → Given → World × Value
gets w given.Null = (w, Word 0)
gets w (given.Word n) = (w, Word n)
gets w (given.Wide n) = (w, Low n)
gets w (given.Exposed n) = (w, exposed_at w n)
gets w (given.New kind) = (with_given w (fresh kind), next_object w)
gets w (given.Array item size) = (with_given w (zeros item size), next_object w)
gets w (given.Literal t) = (w, Literal t)
gets w (given.Class t) = (w, Class t)

-- values from left to right, and the world with them
abbrev pub gets_all : World → List Given → World × List Value
gets_all w [] = (w, [])
gets_all w (g ∷ gs) = let a = gets w g in let b = gets_all a.0 gs in (b.0, a.1 ∷ b.1)

-- a wide takes two registers
abbrev pub spread : List Value → List Value
spread [] = []
spread (Low n ∷ vs) = Low n ∷ High n ∷ spread vs
spread (v ∷ vs) = v ∷ spread vs

-- ---- which values may be given

-- a new object is of a class type that the program doesn't define; the base type of an array is primitive, kept, or not
-- defined by the program
abbrev pub may_give : Face → Outer → World → Given → Bool
may_give face outer w (given.New kind) = is_class_type kind && not (is_defined face kind)
may_give face outer w (given.Array item size) = is_word (base_of item) || is_wide (base_of item) || (is_class_type (base_of item) && (outer.classes (base_of item) || not (is_defined face (base_of item))))
may_give face outer w (given.Exposed n) = nat_lt n (length w.exposed)
may_give face outer w g = true

-- an object fits a program class that is no interface, or an array type, where it is under it; any fits another type
abbrev pub reference_fits : Face → World → Value → Text → Bool
reference_fits face w v kind = elim (is_plain_class face kind || is_array kind) [ true ↦ face.under (kind_of w v) kind | false ↦ is_reference kind ]

-- a word or a wide of the right width, null or an object for a reference
abbrev pub value_fits : Face → World → Given → Value → Text → Bool
value_fits face w given.Null v kind = is_reference kind
value_fits face w (given.Word n) v kind = is_word kind
value_fits face w (given.Wide n) v kind = is_wide kind
value_fits face w g v kind = reference_fits face w v kind

abbrev pub fits : Face → Outer → World → World → Given → Value → Text → Bool
fits face outer w w' g v kind = may_give face outer w g && value_fits face w' g v kind

-- As many values as types, and each fits. `w` is the world before the values that are left, `w'` the one with all.
abbrev pub all_fit : Face → Outer → World → World → List Given → List Value → List Text → Bool
all_fit face outer w w' [] [] [] = true
all_fit face outer w w' (g ∷ gs) (v ∷ vs) (k ∷ ks) = fits face outer w w' g v k && all_fit face outer (gets w g).0 w' gs vs ks
all_fit face outer w w' gs vs ks = false

-- an object that isn't null and is under a type
abbrev pub is_on : Face → World → Value → Text → Bool
is_on face w v kind = not (is_null v) && face.under (kind_of w v) kind

-- what may be thrown
abbrev pub may_throw : Face → Outer → World → World → Given → Value → Bool
may_throw face outer w w' g v = fits face outer w w' g v throwable_type && is_on face w' v throwable_type
