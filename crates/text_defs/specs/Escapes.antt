-- How texts and names are written: a unit from 21 to 7e in hexadecimal other than `\` stands for itself, every other is
-- `\` and its four hexadecimal digits in lower case (this project's profile).
use Rattle.std.specs.Prelude.{ℕ, ◌==◌, ◌||◌, Bool, List, [], ◌∷◌, ◌++◌, take, drop, Option, Some, None, option_and_then, if◌then◌else◌}
use Rattle.std.specs.List.{list_all, flat_map, slice_split}
use Rattle.dalvik_defs.specs.Names.{Text}
use Rattle.text_defs.specs.Digits.{is_from, hex, hex_number}

-- a unit that stands for itself; 92 is the backslash
abbrev pub is_plain : ℕ → Bool
is_plain u = is_from 33 91 u || is_from 93 126 u

abbrev pub unit_text : ℕ → List ℕ
unit_text u = if is_plain u then u ∷ [] else 92 ∷ hex 4 u

-- the text as it is written
abbrev pub escaped : Text → List ℕ
escaped text = flat_map unit_text text

-- ---- and how it is read

-- the text and these units more, which stand for themselves
abbrev pub with_plain : Text → List ℕ → Option Text
with_plain text piece = if list_all is_plain piece then Some (text ++ piece) else None

-- the unit that four digits write, which doesn't stand for itself
abbrev pub escaped_unit : List ℕ → Option ℕ
escaped_unit digits = option_and_then (λ u. if is_plain u then None else Some u) (hex_number 4 digits)

-- and what stands behind a backslash: four digits, and then units that stand for themselves
abbrev pub with_escape : Text → List ℕ → Option Text
with_escape text piece = option_and_then (λ u. with_plain (text ++ u ∷ []) (drop 4 piece)) (escaped_unit (take 4 piece))

abbrev pub with_escapes : Text → List (List ℕ) → Option Text
with_escapes text [] = Some text
with_escapes text (piece ∷ pieces) = option_and_then (λ next. with_escapes next pieces) (with_escape text piece)

abbrev pub text_of_pieces : List (List ℕ) → Option Text
text_of_pieces [] = None
text_of_pieces (piece ∷ pieces) = option_and_then (λ text. with_escapes text pieces) (with_plain [] piece)

-- the text that is written so: a word is cut at its backslashes
abbrev pub text_of : List ℕ → Option Text
text_of word = text_of_pieces (slice_split (λ c. c == 92) word)

-- a name is a text that isn't empty
abbrev pub name_of : List ℕ → Option Text
name_of [] = None
name_of (c ∷ cs) = text_of (c ∷ cs)
