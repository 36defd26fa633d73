-- Numbers in the fewest bytes are read as themselves.
use Rattle.std.proofs.Common.{◌≡◌, ◌<◌, ◌≤◌, ◌+◌, ◌*◌, ◌-◌, ◌%◌, ◌/◌, ◌^◌, ℕ, suc, Bool, true, false, List, [], ◌∷◌, ◌++◌, length, take, drop, replicate, refl, sym, ap, ◌∙◌, arith, ℤ, pos, negsuc, ◌-ℤ◌, ltb-true, ltb-false}
use Rattle.std.specs.Prelude.{nat_lt, ◌==◌, if◌then◌else◌, FitsSigned}
use Rattle.std.specs.Int.{Width, w16, w32, w64, from_le_bytes, to_le_bytes, cast_unsigned}
use Rattle.std.proofs.lemmas.Int.{ints}
use Rattle.std.proofs.lemmas.Bool.{eqb-true, lt-ltb}
use Rattle.byteorder.specs.Endian.{little_number, twos_complement}
use Rattle.dex_pools.specs.Written.{unsigned_len, unsigned_few, magnitude, signed_len, signed_few, float_zeros, float_few, double_zeros, double_few}
use Rattle.dex_pools.specs.Value.{sign_extended, zero_extended, right_extended}

not_below : (x h : ℕ) → h ≤ x → nat_lt x h ≡ false
not_below x h le = by_test (nat_lt x h) refl
  where
    by_test : (t : Bool) → nat_lt x h ≡ t → nat_lt x h ≡ false
    by_test true e = absurd (omega (arith, le, ltb-true x h e))
    by_test false e = e

-- ---- unsigned numbers

pub unsigned_back : (n : ℕ) → n < 2 ^ 32 → zero_extended w32 (unsigned_few n) ≡ n
unfolding unsigned_few
unsigned_back n lt = by1 (nat_lt n (2 ^ 8)) refl
  where
    by3 : (t : Bool) → nat_lt n (2 ^ 24) ≡ t → from_le_bytes w32 (take (if t then 3 else 4) (to_le_bytes w32 n)) ≡ n
    by3 true e = let low = ltb-true n (2 ^ 24) e in omega (arith, low)
    by3 false e = omega (arith, lt)

    by2 : (t : Bool) → nat_lt n (2 ^ 16) ≡ t → from_le_bytes w32 (take (if t then 2 else if nat_lt n (2 ^ 24) then 3 else 4) (to_le_bytes w32 n)) ≡ n
    by2 true e = let low = ltb-true n (2 ^ 16) e in omega (arith, low)
    by2 false e = by3 (nat_lt n (2 ^ 24)) refl

    by1 : (t : Bool) → nat_lt n (2 ^ 8) ≡ t → from_le_bytes w32 (take (if t then 1 else if nat_lt n (2 ^ 16) then 2 else if nat_lt n (2 ^ 24) then 3 else 4) (to_le_bytes w32 n)) ≡ n
    by1 true e = let low = ltb-true n (2 ^ 8) e in omega (arith, low)
    by1 false e = by2 (nat_lt n (2 ^ 16)) refl

pub half_back : (n : ℕ) → n < 2 ^ 16 → zero_extended w16 (unsigned_few n) ≡ n
unfolding unsigned_few
half_back n lt = by1 (nat_lt n (2 ^ 8)) refl
  where
    by2 : (t : Bool) → nat_lt n (2 ^ 16) ≡ t → from_le_bytes w16 (take (if t then 2 else if nat_lt n (2 ^ 24) then 3 else 4) (to_le_bytes w32 n)) ≡ n
    by2 true e = omega (arith, lt)
    by2 false e = absurd (omega (arith, lt, ltb-false n (2 ^ 16) e))

    by1 : (t : Bool) → nat_lt n (2 ^ 8) ≡ t → from_le_bytes w16 (take (if t then 1 else if nat_lt n (2 ^ 16) then 2 else if nat_lt n (2 ^ 24) then 3 else 4) (to_le_bytes w32 n)) ≡ n
    by1 true e = let low = ltb-true n (2 ^ 8) e in omega (arith, low)
    by1 false e = by2 (nat_lt n (2 ^ 16)) refl

-- ---- signed numbers

-- the low bytes of a number
low_1 : (n : ℕ) → n < 2 ^ 64 → little_number 1 (take 1 (to_le_bytes w64 n)) ≡ n % 2 ^ 8
low_1 n lt = omega (arith, lt)

low_2 : (n : ℕ) → n < 2 ^ 64 → little_number 2 (take 2 (to_le_bytes w64 n)) ≡ n % 2 ^ 16
low_2 n lt = omega (arith, lt)

low_3 : (n : ℕ) → n < 2 ^ 64 → little_number 3 (take 3 (to_le_bytes w64 n)) ≡ n % 2 ^ 24
low_3 n lt = omega (arith, lt)

low_4 : (n : ℕ) → n < 2 ^ 64 → little_number 4 (take 4 (to_le_bytes w64 n)) ≡ n % 2 ^ 32
low_4 n lt = omega (arith, lt)

low_5 : (n : ℕ) → n < 2 ^ 64 → little_number 5 (take 5 (to_le_bytes w64 n)) ≡ n % 2 ^ 40
low_5 n lt = omega (arith, lt)

low_6 : (n : ℕ) → n < 2 ^ 64 → little_number 6 (take 6 (to_le_bytes w64 n)) ≡ n % 2 ^ 48
low_6 n lt = omega (arith, lt)

low_7 : (n : ℕ) → n < 2 ^ 64 → little_number 7 (take 7 (to_le_bytes w64 n)) ≡ n % 2 ^ 56
low_7 n lt = omega (arith, lt)

low_8 : (n : ℕ) → n < 2 ^ 64 → little_number 8 (take 8 (to_le_bytes w64 n)) ≡ n % 2 ^ 64
low_8 n lt = omega (arith, lt)

differs : (x y n : ℕ) → x + suc n ≡ y → pos x -ℤ pos y ≡ negsuc n
differs x y n e = omega (arith, ints, e)

above : (few : List ℕ) (k x n : ℕ) → length few ≡ k → little_number k few ≡ x → x ≡ n → n < 2 ^ (8 * k - 1) → sign_extended few ≡ pos n
unfolding sign_extended
above few k x n l e f lt =
    let t : nat_lt n (2 ^ (8 * k - 1)) ≡ true = lt-ltb n (2 ^ (8 * k - 1)) lt in
    ap (λ (m : ℕ). twos_complement m (little_number m few)) l ∙ (ap (λ (m : ℕ). twos_complement k m) (e ∙ f) ∙ rw t refl)

below : (few : List ℕ) (k x n : ℕ) → length few ≡ k → little_number k few ≡ x → x + suc n ≡ 2 ^ (8 * k) → 2 ^ (8 * k - 1) ≤ x → sign_extended few ≡ negsuc n
unfolding sign_extended
below few k x n l e f le =
    let t : nat_lt x (2 ^ (8 * k - 1)) ≡ false = not_below x (2 ^ (8 * k - 1)) le in
    ap (λ (m : ℕ). twos_complement m (little_number m few)) l ∙ (ap (λ (m : ℕ). twos_complement k m) e ∙ rw t (differs x (2 ^ (8 * k)) n f))

pos_1 : (n : ℕ) → n < 2 ^ 7 → sign_extended (take 1 (to_le_bytes w64 n)) ≡ pos n
pos_1 n lt = above (take 1 (to_le_bytes w64 n)) 1 (n % 2 ^ 8) n refl (low_1 n (omega (arith, lt))) (omega (arith, lt)) (omega (arith, lt))

neg_1 : (n : ℕ) → n < 2 ^ 7 → sign_extended (take 1 (to_le_bytes w64 (2 ^ 64 - suc n))) ≡ negsuc n
neg_1 n lt = below (take 1 (to_le_bytes w64 (2 ^ 64 - suc n))) 1 ((2 ^ 64 - suc n) % 2 ^ 8) n refl (low_1 (2 ^ 64 - suc n) (omega (arith, lt))) (omega (arith, lt)) (omega (arith, lt))

pos_2 : (n : ℕ) → n < 2 ^ 15 → sign_extended (take 2 (to_le_bytes w64 n)) ≡ pos n
pos_2 n lt = above (take 2 (to_le_bytes w64 n)) 2 (n % 2 ^ 16) n refl (low_2 n (omega (arith, lt))) (omega (arith, lt)) (omega (arith, lt))

neg_2 : (n : ℕ) → n < 2 ^ 15 → sign_extended (take 2 (to_le_bytes w64 (2 ^ 64 - suc n))) ≡ negsuc n
neg_2 n lt = below (take 2 (to_le_bytes w64 (2 ^ 64 - suc n))) 2 ((2 ^ 64 - suc n) % 2 ^ 16) n refl (low_2 (2 ^ 64 - suc n) (omega (arith, lt))) (omega (arith, lt)) (omega (arith, lt))

pos_3 : (n : ℕ) → n < 2 ^ 23 → sign_extended (take 3 (to_le_bytes w64 n)) ≡ pos n
pos_3 n lt = above (take 3 (to_le_bytes w64 n)) 3 (n % 2 ^ 24) n refl (low_3 n (omega (arith, lt))) (omega (arith, lt)) (omega (arith, lt))

neg_3 : (n : ℕ) → n < 2 ^ 23 → sign_extended (take 3 (to_le_bytes w64 (2 ^ 64 - suc n))) ≡ negsuc n
neg_3 n lt = below (take 3 (to_le_bytes w64 (2 ^ 64 - suc n))) 3 ((2 ^ 64 - suc n) % 2 ^ 24) n refl (low_3 (2 ^ 64 - suc n) (omega (arith, lt))) (omega (arith, lt)) (omega (arith, lt))

pos_4 : (n : ℕ) → n < 2 ^ 31 → sign_extended (take 4 (to_le_bytes w64 n)) ≡ pos n
pos_4 n lt = above (take 4 (to_le_bytes w64 n)) 4 (n % 2 ^ 32) n refl (low_4 n (omega (arith, lt))) (omega (arith, lt)) (omega (arith, lt))

neg_4 : (n : ℕ) → n < 2 ^ 31 → sign_extended (take 4 (to_le_bytes w64 (2 ^ 64 - suc n))) ≡ negsuc n
neg_4 n lt = below (take 4 (to_le_bytes w64 (2 ^ 64 - suc n))) 4 ((2 ^ 64 - suc n) % 2 ^ 32) n refl (low_4 (2 ^ 64 - suc n) (omega (arith, lt))) (omega (arith, lt)) (omega (arith, lt))

pos_5 : (n : ℕ) → n < 2 ^ 39 → sign_extended (take 5 (to_le_bytes w64 n)) ≡ pos n
pos_5 n lt = above (take 5 (to_le_bytes w64 n)) 5 (n % 2 ^ 40) n refl (low_5 n (omega (arith, lt))) (omega (arith, lt)) (omega (arith, lt))

neg_5 : (n : ℕ) → n < 2 ^ 39 → sign_extended (take 5 (to_le_bytes w64 (2 ^ 64 - suc n))) ≡ negsuc n
neg_5 n lt = below (take 5 (to_le_bytes w64 (2 ^ 64 - suc n))) 5 ((2 ^ 64 - suc n) % 2 ^ 40) n refl (low_5 (2 ^ 64 - suc n) (omega (arith, lt))) (omega (arith, lt)) (omega (arith, lt))

pos_6 : (n : ℕ) → n < 2 ^ 47 → sign_extended (take 6 (to_le_bytes w64 n)) ≡ pos n
pos_6 n lt = above (take 6 (to_le_bytes w64 n)) 6 (n % 2 ^ 48) n refl (low_6 n (omega (arith, lt))) (omega (arith, lt)) (omega (arith, lt))

neg_6 : (n : ℕ) → n < 2 ^ 47 → sign_extended (take 6 (to_le_bytes w64 (2 ^ 64 - suc n))) ≡ negsuc n
neg_6 n lt = below (take 6 (to_le_bytes w64 (2 ^ 64 - suc n))) 6 ((2 ^ 64 - suc n) % 2 ^ 48) n refl (low_6 (2 ^ 64 - suc n) (omega (arith, lt))) (omega (arith, lt)) (omega (arith, lt))

pos_7 : (n : ℕ) → n < 2 ^ 55 → sign_extended (take 7 (to_le_bytes w64 n)) ≡ pos n
pos_7 n lt = above (take 7 (to_le_bytes w64 n)) 7 (n % 2 ^ 56) n refl (low_7 n (omega (arith, lt))) (omega (arith, lt)) (omega (arith, lt))

neg_7 : (n : ℕ) → n < 2 ^ 55 → sign_extended (take 7 (to_le_bytes w64 (2 ^ 64 - suc n))) ≡ negsuc n
neg_7 n lt = below (take 7 (to_le_bytes w64 (2 ^ 64 - suc n))) 7 ((2 ^ 64 - suc n) % 2 ^ 56) n refl (low_7 (2 ^ 64 - suc n) (omega (arith, lt))) (omega (arith, lt)) (omega (arith, lt))

pos_8 : (n : ℕ) → n < 2 ^ 63 → sign_extended (take 8 (to_le_bytes w64 n)) ≡ pos n
pos_8 n lt = above (take 8 (to_le_bytes w64 n)) 8 (n % 2 ^ 64) n refl (low_8 n (omega (arith, lt))) (omega (arith, lt)) (omega (arith, lt))

neg_8 : (n : ℕ) → n < 2 ^ 63 → sign_extended (take 8 (to_le_bytes w64 (2 ^ 64 - suc n))) ≡ negsuc n
neg_8 n lt = below (take 8 (to_le_bytes w64 (2 ^ 64 - suc n))) 8 ((2 ^ 64 - suc n) % 2 ^ 64) n refl (low_8 (2 ^ 64 - suc n) (omega (arith, lt))) (omega (arith, lt)) (omega (arith, lt))

pos_few : (n : ℕ) → n < 2 ^ 63 → sign_extended (take (signed_len n) (to_le_bytes w64 n)) ≡ pos n
pos_few n lt = by1 (nat_lt n (2 ^ 7)) refl
  where
    by7 : (t : Bool) → nat_lt n (2 ^ 55) ≡ t → sign_extended (take (if t then 7 else 8) (to_le_bytes w64 n)) ≡ pos n
    by7 true e = pos_7 n (ltb-true n (2 ^ 55) e)
    by7 false e = pos_8 n lt

    by6 : (t : Bool) → nat_lt n (2 ^ 47) ≡ t → sign_extended (take (if t then 6 else if nat_lt n (2 ^ 55) then 7 else 8) (to_le_bytes w64 n)) ≡ pos n
    by6 true e = pos_6 n (ltb-true n (2 ^ 47) e)
    by6 false e = by7 (nat_lt n (2 ^ 55)) refl

    by5 : (t : Bool) → nat_lt n (2 ^ 39) ≡ t → sign_extended (take (if t then 5 else if nat_lt n (2 ^ 47) then 6 else if nat_lt n (2 ^ 55) then 7 else 8) (to_le_bytes w64 n)) ≡ pos n
    by5 true e = pos_5 n (ltb-true n (2 ^ 39) e)
    by5 false e = by6 (nat_lt n (2 ^ 47)) refl

    by4 : (t : Bool) → nat_lt n (2 ^ 31) ≡ t → sign_extended (take (if t then 4 else if nat_lt n (2 ^ 39) then 5 else if nat_lt n (2 ^ 47) then 6 else if nat_lt n (2 ^ 55) then 7 else 8) (to_le_bytes w64 n)) ≡ pos n
    by4 true e = pos_4 n (ltb-true n (2 ^ 31) e)
    by4 false e = by5 (nat_lt n (2 ^ 39)) refl

    by3 : (t : Bool) → nat_lt n (2 ^ 23) ≡ t → sign_extended (take (if t then 3 else if nat_lt n (2 ^ 31) then 4 else if nat_lt n (2 ^ 39) then 5 else if nat_lt n (2 ^ 47) then 6 else if nat_lt n (2 ^ 55) then 7 else 8) (to_le_bytes w64 n)) ≡ pos n
    by3 true e = pos_3 n (ltb-true n (2 ^ 23) e)
    by3 false e = by4 (nat_lt n (2 ^ 31)) refl

    by2 : (t : Bool) → nat_lt n (2 ^ 15) ≡ t → sign_extended (take (if t then 2 else if nat_lt n (2 ^ 23) then 3 else if nat_lt n (2 ^ 31) then 4 else if nat_lt n (2 ^ 39) then 5 else if nat_lt n (2 ^ 47) then 6 else if nat_lt n (2 ^ 55) then 7 else 8) (to_le_bytes w64 n)) ≡ pos n
    by2 true e = pos_2 n (ltb-true n (2 ^ 15) e)
    by2 false e = by3 (nat_lt n (2 ^ 23)) refl

    by1 : (t : Bool) → nat_lt n (2 ^ 7) ≡ t → sign_extended (take (if t then 1 else if nat_lt n (2 ^ 15) then 2 else if nat_lt n (2 ^ 23) then 3 else if nat_lt n (2 ^ 31) then 4 else if nat_lt n (2 ^ 39) then 5 else if nat_lt n (2 ^ 47) then 6 else if nat_lt n (2 ^ 55) then 7 else 8) (to_le_bytes w64 n)) ≡ pos n
    by1 true e = pos_1 n (ltb-true n (2 ^ 7) e)
    by1 false e = by2 (nat_lt n (2 ^ 15)) refl

neg_few : (n : ℕ) → n < 2 ^ 63 → sign_extended (take (signed_len n) (to_le_bytes w64 (2 ^ 64 - suc n))) ≡ negsuc n
neg_few n lt = by1 (nat_lt n (2 ^ 7)) refl
  where
    by7 : (t : Bool) → nat_lt n (2 ^ 55) ≡ t → sign_extended (take (if t then 7 else 8) (to_le_bytes w64 (2 ^ 64 - suc n))) ≡ negsuc n
    by7 true e = neg_7 n (ltb-true n (2 ^ 55) e)
    by7 false e = neg_8 n lt

    by6 : (t : Bool) → nat_lt n (2 ^ 47) ≡ t → sign_extended (take (if t then 6 else if nat_lt n (2 ^ 55) then 7 else 8) (to_le_bytes w64 (2 ^ 64 - suc n))) ≡ negsuc n
    by6 true e = neg_6 n (ltb-true n (2 ^ 47) e)
    by6 false e = by7 (nat_lt n (2 ^ 55)) refl

    by5 : (t : Bool) → nat_lt n (2 ^ 39) ≡ t → sign_extended (take (if t then 5 else if nat_lt n (2 ^ 47) then 6 else if nat_lt n (2 ^ 55) then 7 else 8) (to_le_bytes w64 (2 ^ 64 - suc n))) ≡ negsuc n
    by5 true e = neg_5 n (ltb-true n (2 ^ 39) e)
    by5 false e = by6 (nat_lt n (2 ^ 47)) refl

    by4 : (t : Bool) → nat_lt n (2 ^ 31) ≡ t → sign_extended (take (if t then 4 else if nat_lt n (2 ^ 39) then 5 else if nat_lt n (2 ^ 47) then 6 else if nat_lt n (2 ^ 55) then 7 else 8) (to_le_bytes w64 (2 ^ 64 - suc n))) ≡ negsuc n
    by4 true e = neg_4 n (ltb-true n (2 ^ 31) e)
    by4 false e = by5 (nat_lt n (2 ^ 39)) refl

    by3 : (t : Bool) → nat_lt n (2 ^ 23) ≡ t → sign_extended (take (if t then 3 else if nat_lt n (2 ^ 31) then 4 else if nat_lt n (2 ^ 39) then 5 else if nat_lt n (2 ^ 47) then 6 else if nat_lt n (2 ^ 55) then 7 else 8) (to_le_bytes w64 (2 ^ 64 - suc n))) ≡ negsuc n
    by3 true e = neg_3 n (ltb-true n (2 ^ 23) e)
    by3 false e = by4 (nat_lt n (2 ^ 31)) refl

    by2 : (t : Bool) → nat_lt n (2 ^ 15) ≡ t → sign_extended (take (if t then 2 else if nat_lt n (2 ^ 23) then 3 else if nat_lt n (2 ^ 31) then 4 else if nat_lt n (2 ^ 39) then 5 else if nat_lt n (2 ^ 47) then 6 else if nat_lt n (2 ^ 55) then 7 else 8) (to_le_bytes w64 (2 ^ 64 - suc n))) ≡ negsuc n
    by2 true e = neg_2 n (ltb-true n (2 ^ 15) e)
    by2 false e = by3 (nat_lt n (2 ^ 23)) refl

    by1 : (t : Bool) → nat_lt n (2 ^ 7) ≡ t → sign_extended (take (if t then 1 else if nat_lt n (2 ^ 15) then 2 else if nat_lt n (2 ^ 23) then 3 else if nat_lt n (2 ^ 31) then 4 else if nat_lt n (2 ^ 39) then 5 else if nat_lt n (2 ^ 47) then 6 else if nat_lt n (2 ^ 55) then 7 else 8) (to_le_bytes w64 (2 ^ 64 - suc n))) ≡ negsuc n
    by1 true e = neg_1 n (ltb-true n (2 ^ 7) e)
    by1 false e = by2 (nat_lt n (2 ^ 15)) refl

pub signed_back : (z : ℤ) → FitsSigned w64 z → sign_extended (signed_few z) ≡ z
unfolding signed_few
signed_back (pos n) h = pos_few n h.sfits
signed_back (negsuc n) h = neg_few n h.sfits

-- ---- floats

pub float_back : (n : ℕ) → n < 2 ^ 32 → right_extended w32 (float_few n) ≡ n
unfolding float_few right_extended
float_back n lt = by1 (n % 2 ^ 24 == 0) refl
  where
    by3 : (t : Bool) → (n % 2 ^ 8 == 0) ≡ t → from_le_bytes w32 (replicate (4 - length (drop (if t then 1 else 0) (to_le_bytes w32 n))) 0 ++ drop (if t then 1 else 0) (to_le_bytes w32 n)) ≡ n
    by3 true e = let low = eqb-true (n % 2 ^ 8) 0 e in omega (arith, low, lt)
    by3 false e = omega (arith, lt)

    by2 : (t : Bool) → (n % 2 ^ 16 == 0) ≡ t → from_le_bytes w32 (replicate (4 - length (drop (if t then 2 else if n % 2 ^ 8 == 0 then 1 else 0) (to_le_bytes w32 n))) 0 ++ drop (if t then 2 else if n % 2 ^ 8 == 0 then 1 else 0) (to_le_bytes w32 n)) ≡ n
    by2 true e = let low = eqb-true (n % 2 ^ 16) 0 e in omega (arith, low, lt)
    by2 false e = by3 (n % 2 ^ 8 == 0) refl

    by1 : (t : Bool) → (n % 2 ^ 24 == 0) ≡ t → from_le_bytes w32 (replicate (4 - length (drop (if t then 3 else if n % 2 ^ 16 == 0 then 2 else if n % 2 ^ 8 == 0 then 1 else 0) (to_le_bytes w32 n))) 0 ++ drop (if t then 3 else if n % 2 ^ 16 == 0 then 2 else if n % 2 ^ 8 == 0 then 1 else 0) (to_le_bytes w32 n)) ≡ n
    by1 true e = let low = eqb-true (n % 2 ^ 24) 0 e in omega (arith, low, lt)
    by1 false e = by2 (n % 2 ^ 16 == 0) refl

pub double_back : (n : ℕ) → n < 2 ^ 64 → right_extended w64 (double_few n) ≡ n
unfolding double_few right_extended
double_back n lt = by7 (n % 2 ^ 56 == 0) refl
  where
    by1 : (t : Bool) → (n % 2 ^ 8 == 0) ≡ t → from_le_bytes w64 (replicate (8 - length (drop (if t then 1 else 0) (to_le_bytes w64 n))) 0 ++ drop (if t then 1 else 0) (to_le_bytes w64 n)) ≡ n
    by1 true e = let low = eqb-true (n % 2 ^ 8) 0 e in omega (arith, low, lt)
    by1 false e = omega (arith, lt)

    by2 : (t : Bool) → (n % 2 ^ 16 == 0) ≡ t → from_le_bytes w64 (replicate (8 - length (drop (if t then 2 else if n % 2 ^ 8 == 0 then 1 else 0) (to_le_bytes w64 n))) 0 ++ drop (if t then 2 else if n % 2 ^ 8 == 0 then 1 else 0) (to_le_bytes w64 n)) ≡ n
    by2 true e = let low = eqb-true (n % 2 ^ 16) 0 e in omega (arith, low, lt)
    by2 false e = by1 (n % 2 ^ 8 == 0) refl

    by3 : (t : Bool) → (n % 2 ^ 24 == 0) ≡ t → from_le_bytes w64 (replicate (8 - length (drop (if t then 3 else if n % 2 ^ 16 == 0 then 2 else if n % 2 ^ 8 == 0 then 1 else 0) (to_le_bytes w64 n))) 0 ++ drop (if t then 3 else if n % 2 ^ 16 == 0 then 2 else if n % 2 ^ 8 == 0 then 1 else 0) (to_le_bytes w64 n)) ≡ n
    by3 true e = let low = eqb-true (n % 2 ^ 24) 0 e in omega (arith, low, lt)
    by3 false e = by2 (n % 2 ^ 16 == 0) refl

    by4 : (t : Bool) → (n % 2 ^ 32 == 0) ≡ t → from_le_bytes w64 (replicate (8 - length (drop (if t then 4 else if n % 2 ^ 24 == 0 then 3 else if n % 2 ^ 16 == 0 then 2 else if n % 2 ^ 8 == 0 then 1 else 0) (to_le_bytes w64 n))) 0 ++ drop (if t then 4 else if n % 2 ^ 24 == 0 then 3 else if n % 2 ^ 16 == 0 then 2 else if n % 2 ^ 8 == 0 then 1 else 0) (to_le_bytes w64 n)) ≡ n
    by4 true e = let low = eqb-true (n % 2 ^ 32) 0 e in omega (arith, low, lt)
    by4 false e = by3 (n % 2 ^ 24 == 0) refl

    by5 : (t : Bool) → (n % 2 ^ 40 == 0) ≡ t → from_le_bytes w64 (replicate (8 - length (drop (if t then 5 else if n % 2 ^ 32 == 0 then 4 else if n % 2 ^ 24 == 0 then 3 else if n % 2 ^ 16 == 0 then 2 else if n % 2 ^ 8 == 0 then 1 else 0) (to_le_bytes w64 n))) 0 ++ drop (if t then 5 else if n % 2 ^ 32 == 0 then 4 else if n % 2 ^ 24 == 0 then 3 else if n % 2 ^ 16 == 0 then 2 else if n % 2 ^ 8 == 0 then 1 else 0) (to_le_bytes w64 n)) ≡ n
    by5 true e = let low = eqb-true (n % 2 ^ 40) 0 e in omega (arith, low, lt)
    by5 false e = by4 (n % 2 ^ 32 == 0) refl

    by6 : (t : Bool) → (n % 2 ^ 48 == 0) ≡ t → from_le_bytes w64 (replicate (8 - length (drop (if t then 6 else if n % 2 ^ 40 == 0 then 5 else if n % 2 ^ 32 == 0 then 4 else if n % 2 ^ 24 == 0 then 3 else if n % 2 ^ 16 == 0 then 2 else if n % 2 ^ 8 == 0 then 1 else 0) (to_le_bytes w64 n))) 0 ++ drop (if t then 6 else if n % 2 ^ 40 == 0 then 5 else if n % 2 ^ 32 == 0 then 4 else if n % 2 ^ 24 == 0 then 3 else if n % 2 ^ 16 == 0 then 2 else if n % 2 ^ 8 == 0 then 1 else 0) (to_le_bytes w64 n)) ≡ n
    by6 true e = let low = eqb-true (n % 2 ^ 48) 0 e in omega (arith, low, lt)
    by6 false e = by5 (n % 2 ^ 40 == 0) refl

    by7 : (t : Bool) → (n % 2 ^ 56 == 0) ≡ t → from_le_bytes w64 (replicate (8 - length (drop (if t then 7 else if n % 2 ^ 48 == 0 then 6 else if n % 2 ^ 40 == 0 then 5 else if n % 2 ^ 32 == 0 then 4 else if n % 2 ^ 24 == 0 then 3 else if n % 2 ^ 16 == 0 then 2 else if n % 2 ^ 8 == 0 then 1 else 0) (to_le_bytes w64 n))) 0 ++ drop (if t then 7 else if n % 2 ^ 48 == 0 then 6 else if n % 2 ^ 40 == 0 then 5 else if n % 2 ^ 32 == 0 then 4 else if n % 2 ^ 24 == 0 then 3 else if n % 2 ^ 16 == 0 then 2 else if n % 2 ^ 8 == 0 then 1 else 0) (to_le_bytes w64 n)) ≡ n
    by7 true e = let low = eqb-true (n % 2 ^ 56) 0 e in omega (arith, low, lt)
    by7 false e = by6 (n % 2 ^ 48 == 0) refl
