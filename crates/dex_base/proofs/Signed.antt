-- Signed numbers of up to five times seven bits, in 32.
use Rattle.std.proofs.Common.{◌≡◌, List, [], ◌∷◌, length, get_or, ℕ, ◌+◌, ◌-◌, ◌*◌, ◌/◌, ◌%◌, ◌^◌, ◌<◌, ◌≤◌, refl, sym, ap, ◌∙◌, arith}
use Rattle.std.specs.Prelude.{ℤ, pos, negsuc, ◌+ℤ◌, ◌-ℤ◌, ◌*ℤ◌, ◌≤ℤ◌, ◌<ℤ◌, nat_lt, if◌then◌else◌}
use Rattle.std.specs.Int.{w32, int_wrap}
use Rattle.std.proofs.lemmas.Int.{ints, int_wrap_fits, int_wrap-mul_left, int_wrap-add_left}
use Rattle.std.proofs.lemmas.Bool.Decides.{nat_tests}
use Rattle.dex_base.specs.Leb.{EndsLeb, last_seven, last_four, sleb_value}

pub record IsBetween (low high : ℤ) (z : ℤ) : Type 0 where
  pub above : low ≤ℤ z
  pub below : z <ℤ high

pub seven_between : (b : ℕ) → b < 128 → IsBetween (negsuc 63) (pos 64) (last_seven b)
unfolding last_seven
seven_between b lt = record { above = grind (arith, ints, nat_tests); below = grind (arith, ints, nat_tests) }

pub four_between : (b : ℕ) → IsBetween (negsuc 7) (pos 8) (last_four b)
unfolding last_four
four_between b = record { above = grind (arith, ints, nat_tests); below = grind (arith, ints, nat_tests) }

pub wraps_one : (a : ℕ) → a < 128 → int_wrap w32 (last_seven a) ≡ last_seven a
wraps_one a lt = let h = seven_between a lt in int_wrap_fits w32 (last_seven a) (omega (arith, ints, h.above, h.below))

pub wraps_two : (a b : ℕ) → b < 128 → int_wrap w32 (pos (a % 128) +ℤ pos 128 *ℤ last_seven b) ≡ pos (a % 128) +ℤ pos 128 *ℤ last_seven b
wraps_two a b lt = let h = seven_between b lt in int_wrap_fits w32 _ (omega (arith, ints, h.above, h.below))

pub wraps_three : (a b c : ℕ) → c < 128 → int_wrap w32 (pos (a % 128) +ℤ pos 128 *ℤ (pos (b % 128) +ℤ pos 128 *ℤ last_seven c)) ≡ pos (a % 128) +ℤ pos 128 *ℤ (pos (b % 128) +ℤ pos 128 *ℤ last_seven c)
wraps_three a b c lt = let h = seven_between c lt in int_wrap_fits w32 _ (omega (arith, ints, h.above, h.below))

pub wraps_four : (a b c d : ℕ) → d < 128 → int_wrap w32 (pos (a % 128) +ℤ pos 128 *ℤ (pos (b % 128) +ℤ pos 128 *ℤ (pos (c % 128) +ℤ pos 128 *ℤ last_seven d))) ≡ pos (a % 128) +ℤ pos 128 *ℤ (pos (b % 128) +ℤ pos 128 *ℤ (pos (c % 128) +ℤ pos 128 *ℤ last_seven d))
wraps_four a b c d lt = let h = seven_between d lt in int_wrap_fits w32 _ (omega (arith, ints, h.above, h.below))

-- the last seven bits and the last four differ by a multiple of 16
sixteens : (e : ℕ) → e < 128 → (q : ℤ) × (last_seven e ≡ last_four e +ℤ pos 16 *ℤ q)
unfolding last_seven last_four
sixteens e lt = (if nat_lt e 64 then pos ((e + 8) / 16) else pos ((e + 8) / 16) -ℤ pos 8, grind (arith, ints, nat_tests))

wraps_modulus : int_wrap w32 (pos 4294967296) ≡ pos 0
unfolding int_wrap
wraps_modulus = refl

wraps_none : int_wrap w32 (pos 0) ≡ pos 0
unfolding int_wrap
wraps_none = refl

none_times : (q : ℤ) → pos 0 *ℤ q ≡ pos 0
none_times q = omega (arith, ints)

-- a multiple of 2 ^ 32 is dropped
wraps_multiple : (q z : ℤ) → int_wrap w32 (pos 4294967296 *ℤ q +ℤ z) ≡ int_wrap w32 z
wraps_multiple q z =
    let none : int_wrap w32 (pos 4294967296 *ℤ q) ≡ pos 0 = sym (int_wrap-mul_left w32 (pos 4294967296) q) ∙ ap (λ (n : ℤ). int_wrap w32 (n *ℤ q)) wraps_modulus ∙ ap (int_wrap w32) (none_times q) ∙ wraps_none in
    sym (int_wrap-add_left w32 (pos 4294967296 *ℤ q) z) ∙ ap (λ (n : ℤ). int_wrap w32 (n +ℤ z)) none ∙ ap (int_wrap w32) (omega (arith, ints))

pub wraps_five : (a b c d e : ℕ) → e < 128 → int_wrap w32 (pos (a % 128) +ℤ pos 128 *ℤ (pos (b % 128) +ℤ pos 128 *ℤ (pos (c % 128) +ℤ pos 128 *ℤ (pos (d % 128) +ℤ pos 128 *ℤ last_seven e)))) ≡ pos (a % 128) +ℤ pos 128 *ℤ (pos (b % 128) +ℤ pos 128 *ℤ (pos (c % 128) +ℤ pos 128 *ℤ (pos (d % 128) +ℤ pos 128 *ℤ last_four e)))
wraps_five a b c d e lt =
    let s = sixteens e lt in
    let f = four_between e in
    let low = pos (a % 128) +ℤ pos 128 *ℤ (pos (b % 128) +ℤ pos 128 *ℤ (pos (c % 128) +ℤ pos 128 *ℤ (pos (d % 128) +ℤ pos 128 *ℤ last_four e))) in
    let parts : pos (a % 128) +ℤ pos 128 *ℤ (pos (b % 128) +ℤ pos 128 *ℤ (pos (c % 128) +ℤ pos 128 *ℤ (pos (d % 128) +ℤ pos 128 *ℤ last_seven e))) ≡ pos 4294967296 *ℤ s.0 +ℤ low = omega (arith, ints, s.1) in
    ap (int_wrap w32) parts ∙ wraps_multiple s.0 low ∙ int_wrap_fits w32 low (omega (arith, ints, f.above, f.below))

-- texts of four and five bytes
pub value_four : (text : List ℕ) (v : ℤ) → 4 ≤ length text → length text < 5 → EndsLeb text
    → v ≡ pos (get_or text 0 0 % 128) +ℤ pos 128 *ℤ (pos (get_or text 1 0 % 128) +ℤ pos 128 *ℤ (pos (get_or text 2 0 % 128) +ℤ pos 128 *ℤ last_seven (get_or text 3 0))) → v ≡ sleb_value text
value_four [] v long short ends is = absurd (omega arith)
value_four (a ∷ []) v long short ends is = absurd (omega arith)
value_four (a ∷ b ∷ []) v long short ends is = absurd (omega arith)
value_four (a ∷ b ∷ c ∷ []) v long short ends is = absurd (omega arith)
value_four (a ∷ b ∷ c ∷ d ∷ []) v long short ends is = is ∙ sym (wraps_four a b c d ends.1.1.1)
value_four (a ∷ b ∷ c ∷ d ∷ e ∷ more) v long short ends is = absurd (omega arith)

pub value_five : (text : List ℕ) (v : ℤ) → 5 ≤ length text → length text < 6 → EndsLeb text
    → v ≡ pos (get_or text 0 0 % 128) +ℤ pos 128 *ℤ (pos (get_or text 1 0 % 128) +ℤ pos 128 *ℤ (pos (get_or text 2 0 % 128) +ℤ pos 128 *ℤ (pos (get_or text 3 0 % 128) +ℤ pos 128 *ℤ last_four (get_or text 4 0)))) → v ≡ sleb_value text
value_five [] v long short ends is = absurd (omega arith)
value_five (a ∷ []) v long short ends is = absurd (omega arith)
value_five (a ∷ b ∷ []) v long short ends is = absurd (omega arith)
value_five (a ∷ b ∷ c ∷ []) v long short ends is = absurd (omega arith)
value_five (a ∷ b ∷ c ∷ d ∷ []) v long short ends is = absurd (omega arith)
value_five (a ∷ b ∷ c ∷ d ∷ e ∷ []) v long short ends is = is ∙ sym (wraps_five a b c d e ends.1.1.1.1)
value_five (a ∷ b ∷ c ∷ d ∷ e ∷ f ∷ more) v long short ends is = absurd (omega arith)
