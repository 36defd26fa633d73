-- References in words. `<n>` is one where n is written in digits: it stands for what the n-th wildcard of a condition matched.
use Rattle.std.specs.Prelude.{ℕ, ◌+◌, ◌-◌, ◌*◌, Bool, true, false, ◌&&◌, if◌then◌else◌, nat_eq, nat_lt, nat_le, List, [], ◌∷◌, ◌++◌, map, drop, length, codes}
use Rattle.std.specs.List.{list_any}
use Rattle.rule_text.specs.Tokens.{Word}
use Rattle.if_text.specs.declared.parts.Part.{Part}
use Rattle.if_text.specs.declared.parts.Part.TheVariants.{Byte, Ref}

abbrev pub is_digit : ℕ → Bool
is_digit c = nat_le 48 c && nat_le c 57

-- A number of four digits goes on no more: no reference has one.
abbrev pub next_number : ℕ → ℕ → ℕ
next_number n c = if nat_lt n 1000 then n * 10 + (c - 48) else n

abbrev pub number_from : ℕ → List ℕ → ℕ
number_from n [] = n
number_from n (c ∷ cs) = number_from (next_number n c) cs

-- the number behind a `<`
abbrev pub number_in : List ℕ → ℕ
number_in begun = number_from 0 (drop 1 begun)

abbrev pub bytes_in : List ℕ → List Part
bytes_in cs = map (λ c. Byte c) cs

-- `>` behind `<` and digits
abbrev pub closes : List ℕ → ℕ → Bool
closes begun c = nat_eq c 62 && nat_lt 1 (length begun)

-- a digit behind `<`, or behind digits
abbrev pub goes_on : List ℕ → ℕ → Bool
goes_on begun c = is_digit c && nat_lt 0 (length begun)

-- the parts of a word behind the beginning of what may be a reference, `<` and digits; none is begun where this is empty
abbrev pub parts_from : List ℕ → Word → List Part
parts_from begun [] = bytes_in begun
parts_from begun (c ∷ cs) =
    if nat_eq c 60 then bytes_in begun ++ parts_from (c ∷ []) cs
    else if closes begun c then Ref (number_in begun) ∷ parts_from [] cs
    else if goes_on begun c then parts_from (begun ++ c ∷ []) cs
    else bytes_in begun ++ (Byte c ∷ parts_from [] cs)

abbrev pub parts_of : Word → List Part
parts_of w = parts_from [] w

abbrev pub is_reference : Part → Bool
is_reference (Byte c) = false
is_reference (Ref n) = true

abbrev pub has_reference : Word → Bool
has_reference w = list_any is_reference (parts_of w)

-- a name that fits wherever the word does: `@x` where the word begins with @
abbrev pub stand_in : Word → Word
stand_in [] = codes "x"
stand_in (c ∷ cs) = if nat_eq c 64 then codes "@x" else codes "x"

-- a word with references as the grammar of rules sees it
abbrev pub masked : Word → Word
masked w = if has_reference w then stand_in w else w
