-- A numeral of at most ten digits is what `parse` reads as a number of 64 bits.
use Rattle.std.proofs.Common.{◌≡◌, ◌==◌, ◌^◌, ◌<◌, ◌≤◌, ◌&&◌, inl, inr, ℕ, Bool, true, false, List, [], ◌∷◌, length, Some, None, Result, Ok, Err, slice_index, nat_lt, nat_le, refl, sym, ap, ◌∙◌, arith, ltb-true, lt-ltb, le-leb, leb-true, lit<}
use Rattle.std.proofs.Math.Nat.{pow-le-pow_right}
use Rattle.std.specs.Result.{result_ok}
use Rattle.std.specs.Char.{digit_value}
use Rattle.std.specs.Str.Parse.{AllDigits, IsNumeral, digits_value, ParsesUnsigned}
use Rattle.std.proofs.lemmas.Int.Digits.{digits_value-lt}
use Rattle.command_line.specs.Reading.{number_of, is_decimal}
use Rattle.command_line.specs.Spelling.{IsNumber}
use Rattle.command_line.proofs.OptionLemmas.{and-left, and-right, both, true_or_false}

pub decimal_digits : (text : List ℕ) → is_decimal text ≡ true → AllDigits 10 text
decimal_digits [] h = tt
decimal_digits (c ∷ cs) h = (ltb-true (digit_value c) 10 (and-left (nat_lt (digit_value c) 10) _ h), decimal_digits cs (and-right (nat_lt (digit_value c) 10) _ h))

pub digits_decimal : (text : List ℕ) → AllDigits 10 text → is_decimal text ≡ true
digits_decimal [] h = refl
digits_decimal (c ∷ cs) h = both (nat_lt (digit_value c) 10) _ (lt-ltb (digit_value c) 10 h.0) (digits_decimal cs h.1)

abbrev is_short_numeral : List ℕ → Bool
is_short_numeral text = nat_lt 0 (length text) && (nat_le (length text) 10 && is_decimal text)

-- one to ten decimal digits have their value
pub number_of-numeral : (text : List ℕ) → IsNumeral 10 text → length text ≤ 10 → number_of text ≡ Some (digits_value 10 text)
number_of-numeral text h k =
    let test : is_short_numeral text ≡ true = both _ _ (lt-ltb 0 (length text) h.0) (both _ _ (le-leb (length text) 10 k) (digits_decimal text h.1)) in
    rw test refl

-- and nothing else has one
pub number_of-none : (text : List ℕ) → (IsNumeral 10 text → length text ≤ 10 → ⊥) → number_of text ≡ None
number_of-none text h = elim (true_or_false (is_short_numeral text)) [
  | inl test ↦ absurd (h (ltb-true 0 (length text) (and-left _ _ test), decimal_digits text (and-right _ _ (and-right _ _ test)))
      (leb-true (length text) 10 (and-left _ _ (and-right _ _ test))))
  | inr test ↦ rw test refl
]

pub number_of-some : (text : List ℕ) (n : ℕ) → number_of text ≡ Some n → IsNumber text n
number_of-some text n h = elim (true_or_false (is_short_numeral text)) [
  | inl test ↦
      let value : Some (digits_value 10 text) ≡ Some n = rw test at h in
      record {
        digits = (ltb-true 0 (length text) (and-left _ _ test), decimal_digits text (and-right _ _ (and-right _ _ test)));
        short = leb-true (length text) 10 (and-left _ _ (and-right _ _ test));
        value = cc;
      }
  | inr test ↦ let none : None ≡ Some n = rw test at h in cc
]

plus_is_no_numeral : (text : List ℕ) → slice_index text 0 ≡ 43 → IsNumeral 10 text → length text ≤ 10 → ⊥
plus_is_no_numeral [] e h k = omega (arith, h.0)
plus_is_no_numeral (c ∷ cs) e h k = let few : digit_value c < 10 = h.1.0 in let many : digit_value 43 < 10 = rw e at few in omega (arith, many)

-- a text of a plus and more is no numeral
plus_is_none : (text : List ℕ) → slice_index text 0 ≡ 43 → number_of text ≡ None
plus_is_none text e = number_of-none text (plus_is_no_numeral text e)

small : (text : List ℕ) → IsNumeral 10 text → length text ≤ 10 → digits_value 10 text < 2 ^ 64
small text h k = omega (arith, digits_value-lt 10 text h.1, pow-le-pow_right {n = 10} (lit< tt) k)

-- the clause of `parse` at 64 bits
pub parse-is : {E : Type 0} (text : List ℕ) (r : Result ℕ E) → (slice_index text 0 == 43) ≡ false → length text ≤ 10 → ParsesUnsigned 64 10 text r
    → result_ok r ≡ number_of text
parse-is text (Ok n) no_plus short h =
    let k = rw no_plus at h in sym (number_of-numeral text k.0.0 short ∙ ap Some (sym k.1))
parse-is text (Err e) no_plus short h =
    let k = rw no_plus at h in sym (number_of-none text (λ digits le. k (digits, small text digits le)))
