-- What an adviser with prefixes of class descriptors replies.
use Rattle.std.specs.Prelude.{ℕ, Bool, not, nat_eq, List, [], ◌∷◌, ◌++◌}
use Rattle.std.specs.Char.Escape.{encode_utf16}
use Rattle.std.specs.List.{flat_map, list_any, starts_with}
use Rattle.std.specs.Str.{chars}
use Rattle.redex_outside.specs.declared.adviser.Ask.{Ask}
use Rattle.redex_outside.specs.declared.adviser.Key.TheVariants.{Spare, AtMost}
use Rattle.redex_outside.specs.Turns.{Turn, Told, Weighed}

-- The UTF-16 units of a text that is given as UTF-8.
abbrev pub utf16_of : List ℕ → List ℕ
utf16_of text = flat_map encode_utf16 (chars text)

-- The class descriptor begins with one of the prefixes.
abbrev pub begins_with_one : List (List ℕ) → Ask → Bool
begins_with_one prefixes ask = list_any (λ prefix. starts_with nat_eq ask.class prefix) prefixes

-- The replies with these prefixes.
abbrev pub prefix_replies : List (List ℕ) → List Turn → List Bool
prefix_replies prefixes [] = []
prefix_replies prefixes (Told Spare number text ∷ rest) = prefix_replies (prefixes ++ utf16_of text ∷ []) rest
prefix_replies prefixes (Told AtMost number text ∷ rest) = prefix_replies prefixes rest
prefix_replies prefixes (Weighed ask ∷ rest) = not (begins_with_one prefixes ask) ∷ prefix_replies prefixes rest
