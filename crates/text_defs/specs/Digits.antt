-- Numbers as scripts and events write them (this project's profile).
use Rattle.std.specs.Prelude.{ℕ, zero, suc, ◌/◌, ◌%◌, ◌==◌, ◌&&◌, ◌||◌, Bool, false, not, List, [], ◌∷◌, ◌++◌, length, Option, Some, None, nat_le, min, option_map, if◌then◌else◌}
use Rattle.std.specs.Char.{digit_char}
use Rattle.std.specs.List.{list_all}
use Rattle.std.specs.Str.Parse.{digits_value}

-- from this one on, to that one
abbrev pub is_from : ℕ → ℕ → ℕ → Bool
is_from low high c = nat_le low c && nat_le c high

-- the lowest digits of the number in base 16, so many, in lower case
unfoldable pub hex : ℕ → ℕ → List ℕ
hex zero n = []
hex (suc places) n = hex places (n / 16) ++ digit_char (n % 16) ∷ []

-- 0 to 9
abbrev pub is_decimal_digit : ℕ → Bool
is_decimal_digit c = is_from 48 57 c

-- 0 to 9 and a to f
abbrev pub is_hex_digit : ℕ → Bool
is_hex_digit c = is_from 48 57 c || is_from 97 102 c

-- the number that just so many digits in base 16 write, in lower case
abbrev pub hex_number : ℕ → List ℕ → Option ℕ
hex_number places text = if length text == places && list_all is_hex_digit text then Some (digits_value 16 text) else None

-- one decimal digit or more, of which the first of several isn't 0
abbrev pub is_number : List ℕ → Bool
is_number [] = false
is_number (c ∷ cs) = (length cs == 0 || not (c == 48)) && list_all is_decimal_digit (c ∷ cs)

-- the number that decimal digits write
abbrev pub number_of : List ℕ → Option ℕ
number_of text = if is_number text then Some (digits_value 10 text) else None

-- a place: a number above the greatest of 32 bits is read as that one
abbrev pub place_of : List ℕ → Option ℕ
place_of text = option_map (λ n. min n 4294967295) (number_of text)
