-- The strings and types of a program by their numbers.
use Rattle.std.specs.Prelude.{ℕ, List, [], ◌∷◌, length, Bool, ◌==◌, ◌||◌, nat_lt, Option, Some, None, slice_get, slice_index_or}
use Rattle.program_model.specs.declared.program.Program.{Program}

-- whether a number is that of an entry of its table
abbrev pub has_string : Program → ℕ → Bool
has_string p n = nat_lt n (length p.strings)

abbrev pub has_type : Program → ℕ → Bool
has_type p n = nat_lt n (length p.types)

abbrev pub has_proto : Program → ℕ → Bool
has_proto p n = nat_lt n (length p.protos)

abbrev pub has_field : Program → ℕ → Bool
has_field p n = nat_lt n (length p.fields)

abbrev pub has_method : Program → ℕ → Bool
has_method p n = nat_lt n (length p.methods)

-- the text of a string, and of a type; empty where there is none
abbrev pub string_text : Program → ℕ → List ℕ
string_text p n = slice_index_or p.strings n []

abbrev pub text_or_none : Program → Option ℕ → List ℕ
text_or_none p None = []
text_or_none p (Some n) = string_text p n

unfoldable pub type_text : Program → ℕ → List ℕ
type_text p kind = text_or_none p (slice_get p.types kind)

-- the first unit of a text, 0 where it has none
abbrev pub first_unit : List ℕ → ℕ
first_unit [] = 0
first_unit (u ∷ us) = u

-- the letter that a type's descriptor begins with
unfoldable pub letter_of : Program → ℕ → ℕ
letter_of p kind = first_unit (type_text p kind)

-- by that letter: V for none, L for a class, [ for an array, J and D for the wide primitives
abbrev pub is_void : ℕ → Bool
is_void letter = letter == 86

abbrev pub is_class : ℕ → Bool
is_class letter = letter == 76

abbrev pub is_reference : ℕ → Bool
is_reference letter = letter == 76 || letter == 91

abbrev pub is_wide : ℕ → Bool
is_wide letter = letter == 74 || letter == 68
