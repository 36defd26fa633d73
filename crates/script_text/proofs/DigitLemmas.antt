-- Digits and their values.
use Rattle.std.specs.Prelude.{zero, suc}
use Rattle.std.proofs.Common.{◌≡◌, ◌⊎◌, inl, inr, ℕ, ◌+◌, ◌-◌, ◌*◌, ◌^◌, ◌<◌, ◌≤◌, ◌&&◌, ◌||◌, Bool, true, false, cond, List, [], ◌∷◌, length, take, get_or, min, refl, sym, arith, nat_le, leb-true}
use Rattle.std.specs.Char.{digit_value}
use Rattle.std.specs.List.{list_all}
use Rattle.std.specs.Str.Parse.{AllDigits, digits_value}
use Rattle.std.proofs.lemmas.Int.Digits.{digits_value-lt, digits_value_more}
use Rattle.std.proofs.lemmas.List.{length-take}
use Rattle.std.proofs.Math.Nat.{pow-le-pow_right}
use Rattle.text_defs.specs.Digits.{is_from, is_hex_digit, is_decimal_digit}

split_and : (a b : Bool) → a && b ≡ true → (a ≡ true) × (b ≡ true)
split_and true b h = (refl, h)
split_and false b h = cc

low-below : (c : ℕ) → 48 ≤ c → c ≤ 57 → digit_value c < 16
low-below c a b = grind arith

high-below : (c : ℕ) → 97 ≤ c → c ≤ 102 → digit_value c < 16
high-below c a b = grind arith

split_or : (a b : Bool) → a || b ≡ true → (a ≡ true) ⊎ (b ≡ true)
split_or true b h = inl refl
split_or false b h = inr h

from_is : (low high c : ℕ) → is_from low high c ≡ true → (low ≤ c) × (c ≤ high)
from_is low high c h = let s = split_and (nat_le low c) (nat_le c high) h in (leb-true low c s.0, leb-true c high s.1)

digit-below : (c : ℕ) → is_hex_digit c ≡ true → digit_value c < 16
digit-below c h = elim (split_or (is_from 48 57 c) (is_from 97 102 c) h) [
  | inl l ↦ let r = from_is 48 57 c l in low-below c r.0 r.1
  | inr l ↦ let r = from_is 97 102 c l in high-below c r.0 r.1
]

all_digits : (cs : List ℕ) → list_all is_hex_digit cs ≡ true → AllDigits 16 cs
all_digits [] h = tt
all_digits (c ∷ cs) h = let s = split_and (is_hex_digit c) (list_all is_hex_digit cs) h in (digit-below c s.0, all_digits cs s.1)

all_take : {X : Type 0} (p : X → Bool) (i : ℕ) (xs : List X) → list_all p xs ≡ true → list_all p (take i xs) ≡ true
all_take p zero xs h = refl
all_take p (suc i) [] h = refl
all_take p (suc i) (x ∷ xs) h = let s = split_and (p x) (list_all p xs) h in rw s.0 (all_take p i xs s.1)

pub digit_at : (p : ℕ → Bool) (i : ℕ) (xs : List ℕ) → list_all p xs ≡ true → i < length xs → p (get_or xs i 0) ≡ true
digit_at p i [] h below = absurd (omega arith)
digit_at p zero (x ∷ xs) h below = (split_and (p x) (list_all p xs) h).0
digit_at p (suc i) (x ∷ xs) h below = digit_at p i xs (split_and (p x) (list_all p xs) h).1 (omega arith)

taken : (i : ℕ) (text : List ℕ) → i < 16 → length (take i text) ≤ 15
taken i text short = omega (arith, length-take i text)

-- what is read of at most 16 digits has room for one more
pub hex_fits : (text : List ℕ) (i : ℕ) → list_all is_hex_digit text ≡ true → i < 16 → digits_value 16 (take i text) < 16 ^ 15
hex_fits text i digits short =
    let value = digits_value-lt 16 (take i text) (all_digits (take i text) (all_take is_hex_digit i text digits)) in
    let grows : 16 ^ length (take i text) ≤ 16 ^ 15 = pow-le-pow_right {n = 16} (omega arith) {i = length (take i text)} {j = 15} (taken i text short) in
    omega (arith, value, grows)

-- one digit more
pub hex_more : (text : List ℕ) (i v d : ℕ) → i < length text → v ≡ digits_value 16 (take i text) → d ≡ digit_value (get_or text i 0)
    → v * 16 + d ≡ digits_value 16 (take (i + 1) text)
hex_more text i v d below so_far is = rw so_far (rw is (sym (digits_value_more 16 text i below)))

decimal_value : (c : ℕ) → 48 ≤ c → c ≤ 57 → digit_value c ≡ c - 48
decimal_value c low high = grind arith

pub place_more : (text : List ℕ) (i v p : ℕ) → i < length text → list_all is_decimal_digit text ≡ true
    → v ≡ min (digits_value 10 (take i text)) 4294967295 → p ≡ min (v * 10 + (get_or text i 0 - 48)) 4294967295
    → p ≡ min (digits_value 10 (take (i + 1) text)) 4294967295
place_more text i v p below digits so_far is =
    let c = from_is 48 57 (get_or text i 0) (digit_at is_decimal_digit i text digits below) in
    let value : digit_value (get_or text i 0) ≡ get_or text i 0 - 48 = decimal_value (get_or text i 0) c.0 c.1 in
    omega (arith, digits_value_more 10 text i below, value)

pub hex_below : (text : List ℕ) → list_all is_hex_digit text ≡ true → digits_value 16 text < 16 ^ length text
hex_below text digits = digits_value-lt 16 text (all_digits text digits)
