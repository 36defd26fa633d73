-- The values of a script (this project's profile).
use Rattle.std.specs.Prelude.{ℕ, suc, ◌==◌, ◌&&◌, Bool, false, List, [], ◌∷◌, length, take, drop, Option, Some, None, codes, nat_lt, nat_le, option_map, option_and_then, if◌then◌else◌}
use Rattle.dalvik_defs.specs.Names.{Text, text_eq}
use Rattle.dalvik_defs.specs.declared.script.Given.{Given}
use Rattle.dalvik_defs.specs.declared.script.Given.TheVariants as given
use Rattle.text_defs.specs.Digits.{hex_number, number_of, place_of}
use Rattle.text_defs.specs.Escapes.{text_of, name_of}
use Rattle.text_defs.specs.Words.{behind, either, one_of}

-- `w` and 8 digits
abbrev pub word_of : List ℕ → Option ℕ
word_of word = option_and_then (hex_number 8) (behind (codes "w") word)

-- `l` and 16 digits
abbrev pub wide_of : List ℕ → Option ℕ
wide_of word = option_and_then (hex_number 16) (behind (codes "l") word)

-- how many items a new array has
abbrev pub size_of : List ℕ → Option ℕ
size_of text = option_and_then (λ n. if nat_le n 65535 then Some n else None) (number_of text)

-- the place of the last colon, where the text begins at this place
abbrev pub later : Option ℕ → Option ℕ → Option ℕ
later (Some place) here = Some place
later None here = here

abbrev pub last_colon : ℕ → List ℕ → Option ℕ
last_colon place [] = None
last_colon place (c ∷ cs) = later (last_colon (suc place) cs) (if c == 58 then Some place else None)

-- TYPE:N, cut at the last colon
abbrev pub array_of : List ℕ → Option Given
array_of text = option_and_then (λ colon. option_and_then (λ item. option_map (given.Array item) (size_of (drop (suc colon) text)))
    (name_of (take colon text))) (last_colon 0 text)

-- a new object, a new array, a text or a class
abbrev pub object_of : List ℕ → Option Given
object_of word = either (behind (codes "new:") word) (λ rest. option_map given.New (name_of rest))
    (either (behind (codes "array:") word) array_of
    (either (behind (codes "text:") word) (λ rest. option_map given.Literal (text_of rest))
    (either (behind (codes "class:") word) (λ rest. option_map given.Class (name_of rest)) None)))

-- null, a word, a wide, an object by its place, or one of those
abbrev pub given_of : List ℕ → Option Given
given_of word = if text_eq word (codes "null") then Some given.Null
    else either (behind (codes "w") word) (λ digits. option_map given.Word (hex_number 8 digits))
    (either (behind (codes "l") word) (λ digits. option_map given.Wide (hex_number 16 digits))
    (either (behind (codes "#") word) (λ digits. option_map given.Exposed (place_of digits)) (object_of word)))

-- no value, or one
abbrev pub perhaps_given : List (List ℕ) → Option (Option Given)
perhaps_given words = if length words == 0 then Some None else option_map Some (option_and_then given_of (one_of words))

-- whether something stands behind the first `)`
abbrev pub has_result : Text → Bool
has_result [] = false
has_result (u ∷ us) = if u == 41 then nat_lt 0 (length us) else has_result us

-- `(`, parameters, `)` and a result
abbrev pub is_proto : Text → Bool
is_proto [] = false
is_proto (u ∷ us) = u == 40 && has_result us

abbrev pub proto_of : List ℕ → Option Text
proto_of word = option_and_then (λ text. if is_proto text then Some text else None) (name_of word)
