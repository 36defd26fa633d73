-- Values and annotations, as they are written: each number in the fewest bytes.
use Rattle.std.specs.Prelude.{ℕ, ◌+◌, ◌-◌, ◌*◌, ◌%◌, ◌^◌, ℤ, pos, negsuc, List, [], ◌∷◌, ◌++◌, length, take, drop, min, slice_index_or, nat_lt, ◌==◌, if◌then◌else◌}
use Rattle.std.specs.Int.{w32, w64, cast_unsigned, to_le_bytes}
use Rattle.std.specs.List.{concat, flat_map}
use Rattle.dex_base.specs.Leb.{uleb_text}
use Rattle.program_model.specs.declared.pass.Renumber.{Renumber}
use Rattle.program_model.specs.declared.value.EncValue.{EncValue, EncValue-F, fold-EncValue}
use Rattle.program_model.specs.declared.value.EncValue.TheOpen as layer
use Rattle.program_model.specs.declared.value.Note.{Note, Note-F, fold-Note}
use Rattle.program_model.specs.declared.value.Element.{Element, Element-F, fold-Element}
use Rattle.program_model.specs.declared.value.Mark.{Mark}

-- the new number of an entry; past the end of the list there is none
abbrev pub renumbered : List ℕ → ℕ → ℕ
renumbered numbers n = slice_index_or numbers n 4294967295

-- the type of a value, how many bytes follow, and these
abbrev pub tagged : ℕ → List ℕ → List ℕ
tagged kind few = (kind + 32 * (length few - 1)) ∷ few

-- how many bytes an unsigned number of 32 bits needs, and these
abbrev pub unsigned_len : ℕ → ℕ
unsigned_len n = if nat_lt n (2 ^ 8) then 1 else if nat_lt n (2 ^ 16) then 2 else if nat_lt n (2 ^ 24) then 3 else 4

unfoldable pub unsigned_few : ℕ → List ℕ
unsigned_few n = take (unsigned_len n) (to_le_bytes w32 n)

-- the bits of a number but for its sign
abbrev pub magnitude : ℤ → ℕ
magnitude (pos n) = n
magnitude (negsuc n) = n

-- how many bytes the bits and a sign need, and those of a signed number
abbrev pub signed_len : ℕ → ℕ
signed_len n = if nat_lt n (2 ^ 7) then 1 else if nat_lt n (2 ^ 15) then 2 else if nat_lt n (2 ^ 23) then 3 else if nat_lt n (2 ^ 31) then 4
    else if nat_lt n (2 ^ 39) then 5 else if nat_lt n (2 ^ 47) then 6 else if nat_lt n (2 ^ 55) then 7 else 8

unfoldable pub signed_few : ℤ → List ℕ
signed_few z = take (signed_len (magnitude z)) (to_le_bytes w64 (cast_unsigned w64 z))

-- how many of the low bytes of a float and of a double are zero, the highest not counted, and the other bytes
abbrev pub float_zeros : ℕ → ℕ
float_zeros n = if n % 2 ^ 24 == 0 then 3 else if n % 2 ^ 16 == 0 then 2 else if n % 2 ^ 8 == 0 then 1 else 0

unfoldable pub float_few : ℕ → List ℕ
float_few n = drop (float_zeros n) (to_le_bytes w32 n)

abbrev pub double_zeros : ℕ → ℕ
double_zeros n = if n % 2 ^ 56 == 0 then 7 else if n % 2 ^ 48 == 0 then 6 else if n % 2 ^ 40 == 0 then 5 else if n % 2 ^ 32 == 0 then 4
    else if n % 2 ^ 24 == 0 then 3 else if n % 2 ^ 16 == 0 then 2 else if n % 2 ^ 8 == 0 then 1 else 0

unfoldable pub double_few : ℕ → List ℕ
double_few n = drop (double_zeros n) (to_le_bytes w64 n)

-- how many items follow, and these
abbrev pub listed : List (List ℕ) → List ℕ
listed texts = uleb_text (min (length texts) 4294967295) ++ concat texts

-- a value, by the texts of the values in it
abbrev pub text_of_value : Renumber → EncValue-F (List ℕ) (List ℕ) (List ℕ) → List ℕ
text_of_value numbers (layer.Byte z) = tagged 0 (signed_few z)
text_of_value numbers (layer.Short z) = tagged 2 (signed_few z)
text_of_value numbers (layer.Char n) = tagged 3 (unsigned_few n)
text_of_value numbers (layer.Int z) = tagged 4 (signed_few z)
text_of_value numbers (layer.Long z) = tagged 6 (signed_few z)
text_of_value numbers (layer.Float n) = tagged 16 (float_few n)
text_of_value numbers (layer.Double n) = tagged 17 (double_few n)
text_of_value numbers (layer.Str n) = tagged 23 (unsigned_few (renumbered numbers.strings.items n))
text_of_value numbers (layer.Class n) = tagged 24 (unsigned_few (renumbered numbers.types.items n))
text_of_value numbers (layer.Field n) = tagged 25 (unsigned_few (renumbered numbers.fields.items n))
text_of_value numbers (layer.Method n) = tagged 26 (unsigned_few (renumbered numbers.methods.items n))
text_of_value numbers (layer.Enum n) = tagged 27 (unsigned_few (renumbered numbers.fields.items n))
text_of_value numbers (layer.Array texts) = 28 ∷ listed texts
text_of_value numbers (layer.Annotation text) = 29 ∷ text
text_of_value numbers layer.Null = 30 ∷ []
text_of_value numbers (layer.Bool b) = (if b then 63 else 31) ∷ []

abbrev pub text_of_element : Renumber → Element-F (List ℕ) (List ℕ) (List ℕ) → List ℕ
text_of_element numbers e = uleb_text (renumbered numbers.strings.items e.name) ++ e.value

abbrev pub text_of_note : Renumber → Note-F (List ℕ) (List ℕ) (List ℕ) → List ℕ
text_of_note numbers n = uleb_text (renumbered numbers.types.items n.class) ++ listed n.elements

-- the shortest spelling of a value, of an element and of an annotation without its visibility
unfoldable pub value_text : Renumber → EncValue → List ℕ
value_text numbers v = fold-EncValue (List ℕ) (List ℕ) (List ℕ) (text_of_value numbers) (text_of_element numbers) (text_of_note numbers) v

unfoldable pub element_text : Renumber → Element → List ℕ
element_text numbers e = fold-Element (List ℕ) (List ℕ) (List ℕ) (text_of_value numbers) (text_of_element numbers) (text_of_note numbers) e

unfoldable pub note_text : Renumber → Note → List ℕ
note_text numbers n = fold-Note (List ℕ) (List ℕ) (List ℕ) (text_of_value numbers) (text_of_element numbers) (text_of_note numbers) n

abbrev pub mark_text : Renumber → Mark → List ℕ
mark_text numbers m = m.visibility ∷ note_text numbers m.note

-- how many items a list has, and their texts
unfoldable pub list_text : {X : Type 0} → (X → List ℕ) → List X → List ℕ
list_text text xs = uleb_text (min (length xs) 4294967295) ++ flat_map text xs
