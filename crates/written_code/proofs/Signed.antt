-- Signed numbers in few bits are read as themselves.
use Rattle.std.proofs.Common.{◌≡◌, ◌<◌, ◌+◌, ◌*◌, ◌-◌, ◌%◌, ◌/◌, ◌^◌, inl, inr, ℕ, zero, suc, Bool, true, false, refl, subst, sym, ap, ◌∙◌, arith, ℤ, pos, negsuc, ◌-ℤ◌, neg_ℤ}
use Rattle.std.specs.Prelude.{FitsSigned, nat_lt, unsigned_abs, if◌then◌else◌}
use Rattle.std.specs.Ordering.{int_eq}
use Rattle.std.specs.Int.{w16, w32, w64, cast_unsigned, cast_signed}
use Rattle.std.proofs.lemmas.Int.{ints}
use Rattle.std.specs.Cmp.{signed_Decides}
use Rattle.std.proofs.lemmas.Bool.{or_parts, cases_lt, le-leb, lt-leb, ltb-false}
use Rattle.insn_set.specs.Spelling.{fits_nibble, fits_byte, fits_short, fits_int, is_multiple}
use Rattle.relax.specs.Far.{spans_far}
use Rattle.code_write.specs.Code.{far_of}
use Rattle.code_read.specs.Forms.{nibble, byte, short, word}

pub byte_pos : (n : ℕ) → n < 2 ^ 7 → byte n ≡ pos n
byte_pos n lt = grind (arith, ints)

pub byte_neg : (n m : ℕ) → n < 2 ^ 7 → m ≡ 2 ^ 8 - suc n → byte m ≡ negsuc n
byte_neg n m lt e = grind (arith, ints)

pub short_pos : (n : ℕ) → n < 2 ^ 15 → short n ≡ pos n
short_pos n lt = grind (arith, ints)

pub short_neg : (n m : ℕ) → n < 2 ^ 15 → m ≡ 2 ^ 16 - suc n → short m ≡ negsuc n
short_neg n m lt e = grind (arith, ints)

pub word_pos : (n : ℕ) → n < 2 ^ 31 → word n ≡ pos n
word_pos n lt = grind (arith, ints)

pub word_neg : (n m : ℕ) → n < 2 ^ 31 → m ≡ 2 ^ 32 - suc n → word m ≡ negsuc n
word_neg n m lt e = grind (arith, ints)

pub long_pos : (n : ℕ) → n < 2 ^ 63 → cast_signed w64 n ≡ pos n
long_pos n lt = grind (arith, ints)

pub long_neg : (n m : ℕ) → n < 2 ^ 63 → m ≡ 2 ^ 64 - suc n → cast_signed w64 m ≡ negsuc n
long_neg n m lt e = grind (arith, ints)

pub nibble_pos : (n : ℕ) → n < 8 → nibble n ≡ pos n
unfolding nibble
nibble_pos n lt = grind (arith, ints)

pub nibble_neg : (n m : ℕ) → n < 8 → m ≡ 16 - suc n → nibble m ≡ negsuc n
unfolding nibble
nibble_neg n m lt e = grind (arith, ints)

-- what fits so many bits is at most so far from zero
abbrev pub Near : ℕ → ℤ → Type 0
Near bound (pos n) = n < bound
Near bound (negsuc n) = n < bound

pub near_byte : (z : ℤ) → fits_byte z ≡ true → Near 128 z
near_byte (pos n) e = grind (arith, ints)
near_byte (negsuc n) e = grind (arith, ints)

pub near_short : (z : ℤ) → fits_short z ≡ true → Near 32768 z
near_short (pos n) e = grind (arith, ints)
near_short (negsuc n) e = grind (arith, ints)

pub near_int : (z : ℤ) → fits_int z ≡ true → Near 2147483648 z
near_int (pos n) e = grind (arith, ints)
near_int (negsuc n) e = grind (arith, ints)

pub near_nibble : (z : ℤ) → fits_nibble z ≡ true → Near 8 z
near_nibble (pos n) e = grind (arith, ints)
near_nibble (negsuc n) e = grind (arith, ints)

-- ---- literals

pub nibble_back : (z : ℤ) → Near 8 z → nibble (cast_unsigned w32 z % 16) ≡ z
nibble_back (pos n) lt = ap nibble (low n lt) ∙ nibble_pos n lt
  where
    low : (n : ℕ) → n < 8 → n % 16 ≡ n
    low n lt = omega (arith, lt)
nibble_back (negsuc n) lt = nibble_neg n ((2 ^ 32 - suc n) % 16) lt (low n lt)
  where
    low : (n : ℕ) → n < 8 → (2 ^ 32 - suc n) % 16 ≡ 16 - suc n
    low n lt = omega (arith, lt)

pub short_back : (z : ℤ) → Near 32768 z → short (cast_unsigned w32 z % 65536) ≡ z
short_back (pos n) lt = ap short (low n lt) ∙ short_pos n lt
  where
    low : (n : ℕ) → n < 32768 → n % 65536 ≡ n
    low n lt = omega (arith, lt)
short_back (negsuc n) lt = short_neg n ((2 ^ 32 - suc n) % 65536) lt (low n lt)
  where
    low : (n : ℕ) → n < 32768 → (2 ^ 32 - suc n) % 65536 ≡ 2 ^ 16 - suc n
    low n lt = omega (arith, lt)

pub word_back : (z : ℤ) → Near 2147483648 z → word (cast_unsigned w32 z) ≡ z
word_back (pos n) lt = word_pos n lt
word_back (negsuc n) lt = word_neg n (2 ^ 32 - suc n) lt refl

-- of a multiple the low bits are left out
none_left : (k : ℕ) → int_eq (neg_ℤ (pos k)) (pos 0) ≡ true → k ≡ 0
none_left zero e = refl
none_left (suc k) e = absurd cc

same_left : (k : ℕ) → int_eq (pos k) (pos 0) ≡ true → k ≡ 0
same_left k e = ap unsigned_abs ((signed_Decides (pos k) (pos 0)).0 e)

pub high_back : (z : ℤ) → Near 2147483648 z → is_multiple z 65536 ≡ true → word (cast_unsigned w32 z / 65536 % 65536 * 65536) ≡ z
high_back (pos n) lt e = ap word (low n lt (same_left (n % 65536) e)) ∙ word_pos n lt
  where
    low : (n : ℕ) → n < 2147483648 → n % 65536 ≡ 0 → n / 65536 % 65536 * 65536 ≡ n
    low n lt z = omega (arith, lt, z)
high_back (negsuc n) lt e = word_neg n ((2 ^ 32 - suc n) / 65536 % 65536 * 65536) lt (low n lt (none_left (suc n % 65536) e))
  where
    low : (n : ℕ) → n < 2147483648 → suc n % 65536 ≡ 0 → (2 ^ 32 - suc n) / 65536 % 65536 * 65536 ≡ 2 ^ 32 - suc n
    low n lt z = omega (arith, lt, z)

-- ---- literals of 64 bits

pub wide_short : (z : ℤ) → Near 32768 z → short (cast_unsigned w64 z % 4294967296 % 65536) ≡ z
wide_short (pos n) lt = ap short (low n lt) ∙ short_pos n lt
  where
    low : (n : ℕ) → n < 32768 → n % 4294967296 % 65536 ≡ n
    low n lt = omega (arith, lt)
wide_short (negsuc n) lt = short_neg n ((2 ^ 64 - suc n) % 4294967296 % 65536) lt (low n lt)
  where
    low : (n : ℕ) → n < 32768 → (2 ^ 64 - suc n) % 4294967296 % 65536 ≡ 2 ^ 16 - suc n
    low n lt = omega (arith, lt)

pub wide_word : (z : ℤ) → Near 2147483648 z → word (cast_unsigned w64 z % 4294967296) ≡ z
wide_word (pos n) lt = ap word (low n lt) ∙ word_pos n lt
  where
    low : (n : ℕ) → n < 2147483648 → n % 4294967296 ≡ n
    low n lt = omega (arith, lt)
wide_word (negsuc n) lt = word_neg n ((2 ^ 64 - suc n) % 4294967296) lt (low n lt)
  where
    low : (n : ℕ) → n < 2147483648 → (2 ^ 64 - suc n) % 4294967296 ≡ 2 ^ 32 - suc n
    low n lt = omega (arith, lt)

abbrev pub Long : ℤ → Type 0
Long z = Near (2 ^ 63) z

pub long_back : (z : ℤ) → Long z → cast_signed w64 (cast_unsigned w64 z) ≡ z
long_back (pos n) lt = long_pos n lt
long_back (negsuc n) lt = long_neg n (2 ^ 64 - suc n) lt refl

pub wide_high : (z : ℤ) → Long z → is_multiple z 281474976710656 ≡ true → cast_signed w64 (cast_unsigned w64 z / 281474976710656 % 65536 * 281474976710656) ≡ z
wide_high (pos n) lt e = ap (cast_signed w64) (low n lt (same_left (n % 281474976710656) e)) ∙ long_pos n lt
  where
    low : (n : ℕ) → n < 2 ^ 63 → n % 281474976710656 ≡ 0 → n / 281474976710656 % 65536 * 281474976710656 ≡ n
    low n lt z = omega (arith, lt, z)
wide_high (negsuc n) lt e = long_neg n ((2 ^ 64 - suc n) / 281474976710656 % 65536 * 281474976710656) lt (low n lt (none_left (suc n % 281474976710656) e))
  where
    low : (n : ℕ) → n < 2 ^ 63 → suc n % 281474976710656 ≡ 0 → (2 ^ 64 - suc n) / 281474976710656 % 65536 * 281474976710656 ≡ 2 ^ 64 - suc n
    low n lt z = omega (arith, lt, z)

pub near_word : (z : ℤ) → FitsSigned w32 z → Near 2147483648 z
near_word (pos n) f = f.sfits
near_word (negsuc n) f = f.sfits

pub near_long : (z : ℤ) → FitsSigned w64 z → Long z
near_long (pos n) f = f.sfits
near_long (negsuc n) f = f.sfits

pub near_half : (z : ℤ) → FitsSigned w16 z → Near 32768 z
near_half (pos n) f = f.sfits
near_half (negsuc n) f = f.sfits

pub few_bits : (z : ℤ) → Near 2147483648 z → cast_unsigned w32 z < 2 ^ 32
few_bits (pos n) lt = omega (arith, lt)
few_bits (negsuc n) lt = omega arith

pub long_bits : (z : ℤ) → Long z → cast_unsigned w64 z < 2 ^ 64
long_bits (pos n) lt = omega (arith, lt)
long_bits (negsuc n) lt = omega arith

-- a literal of 16 bits, and of its low byte
pub half_back : (z : ℤ) → Near 32768 z → short (cast_unsigned w16 z % 65536) ≡ z
half_back (pos n) lt = ap short (low n lt) ∙ short_pos n lt
  where
    low : (n : ℕ) → n < 32768 → n % 65536 ≡ n
    low n lt = omega (arith, lt)
half_back (negsuc n) lt = short_neg n ((2 ^ 16 - suc n) % 65536) lt (low n lt)
  where
    low : (n : ℕ) → n < 32768 → (2 ^ 16 - suc n) % 65536 ≡ 2 ^ 16 - suc n
    low n lt = omega (arith, lt)

pub low_back : (z : ℤ) → Near 128 z → byte (cast_unsigned w16 z % 256) ≡ z
low_back (pos n) lt = ap byte (low n lt) ∙ byte_pos n lt
  where
    low : (n : ℕ) → n < 128 → n % 256 ≡ n
    low n lt = omega (arith, lt)
low_back (negsuc n) lt = byte_neg n ((2 ^ 16 - suc n) % 256) lt (low n lt)
  where
    low : (n : ℕ) → n < 128 → (2 ^ 16 - suc n) % 256 ≡ 2 ^ 8 - suc n
    low n lt = omega (arith, lt)

-- ---- distances

pub data Lies (from to : ℕ) : Type 0 where
  Ahead : (n : ℕ) → to ≡ from + n → far_of from to ≡ n → (pos to -ℤ pos from) ≡ pos n → Lies from to
  Behind : (n : ℕ) → from ≡ to + suc n → far_of from to ≡ 2 ^ 32 - suc n → (pos to -ℤ pos from) ≡ negsuc n → Lies from to

ahead : (x y n : ℕ) → x ≡ y + n → (pos x -ℤ pos y) ≡ pos n
ahead x y n e = omega (arith, ints, e)

behind : (x y n : ℕ) → y ≡ x + suc n → (pos x -ℤ pos y) ≡ negsuc n
behind x y n e = omega (arith, ints, e)

pub lies : (from to : ℕ) → Lies from to
lies from to = elim (cases_lt to from) [
  | inl lt ↦
      let at : from ≡ to + suc (from - to - 1) = omega (arith, lt) in
      Behind (from - to - 1) at (ap (λ (b : Bool). if b then to - from else 4294967296 - (from - to)) (lt-leb from to lt) ∙ omega (arith, lt)) (behind to from (from - to - 1) at)
  | inr le ↦
      let at : to ≡ from + (to - from) = omega (arith, le) in
      Ahead (to - from) at (ap (λ (b : Bool). if b then to - from else 4294967296 - (from - to)) (le-leb from to le)) (ahead to from (to - from) at)
]

pub far_few : (from to : ℕ) → from < 2 ^ 31 → to < 2 ^ 31 → far_of from to < 2 ^ 32
far_few from to lf lt = by_lies (lies from to)
  where
    by_lies : Lies from to → far_of from to < 2 ^ 32
    by_lies (Ahead n e f d) = omega (arith, e, f, lt)
    by_lies (Behind n e f d) = omega (arith, e, f, lf)

pub far_word : (from to : ℕ) → from < 2 ^ 31 → to < 2 ^ 31 → word (far_of from to) ≡ (pos to -ℤ pos from)
far_word from to lf lt = by_lies (lies from to)
  where
    by_lies : Lies from to → word (far_of from to) ≡ (pos to -ℤ pos from)
    by_lies (Ahead n e f d) = ap word f ∙ (word_pos n (omega (arith, e, lt)) ∙ sym d)
    by_lies (Behind n e f d) = ap word f ∙ (word_neg n (2 ^ 32 - suc n) (omega (arith, e, lf)) refl ∙ sym d)

pub far_short : (from to : ℕ) → Near 32768 (pos to -ℤ pos from) → short (far_of from to % 65536) ≡ (pos to -ℤ pos from)
far_short from to near = by_lies (lies from to)
  where
    low : (n : ℕ) → n < 32768 → n % 65536 ≡ n
    low n lt = omega (arith, lt)

    low_behind : (n : ℕ) → n < 32768 → (2 ^ 32 - suc n) % 65536 ≡ 2 ^ 16 - suc n
    low_behind n lt = omega (arith, lt)

    by_lies : Lies from to → short (far_of from to % 65536) ≡ (pos to -ℤ pos from)
    by_lies (Ahead n e f d) =
        let lt : n < 32768 = subst (Near 32768) d near in
        ap (λ (x : ℕ). short (x % 65536)) f ∙ (ap short (low n lt) ∙ (short_pos n lt ∙ sym d))
    by_lies (Behind n e f d) =
        let lt : n < 32768 = subst (Near 32768) d near in
        ap (λ (x : ℕ). short (x % 65536)) f ∙ (short_neg n ((2 ^ 32 - suc n) % 65536) lt (low_behind n lt) ∙ sym d)

pub far_byte : (from to : ℕ) → Near 128 (pos to -ℤ pos from) → byte (far_of from to % 256) ≡ (pos to -ℤ pos from)
far_byte from to near = by_lies (lies from to)
  where
    low : (n : ℕ) → n < 128 → n % 256 ≡ n
    low n lt = omega (arith, lt)

    low_behind : (n : ℕ) → n < 128 → (2 ^ 32 - suc n) % 256 ≡ 2 ^ 8 - suc n
    low_behind n lt = omega (arith, lt)

    by_lies : Lies from to → byte (far_of from to % 256) ≡ (pos to -ℤ pos from)
    by_lies (Ahead n e f d) =
        let lt : n < 128 = subst (Near 128) d near in
        ap (λ (x : ℕ). byte (x % 256)) f ∙ (ap byte (low n lt) ∙ (byte_pos n lt ∙ sym d))
    by_lies (Behind n e f d) =
        let lt : n < 128 = subst (Near 128) d near in
        ap (λ (x : ℕ). byte (x % 256)) f ∙ (byte_neg n ((2 ^ 32 - suc n) % 256) lt (low_behind n lt) ∙ sym d)

-- what is not too far
pub near_spans : (from to : ℕ) → spans_far from to ≡ false → Near 32768 (pos to -ℤ pos from)
near_spans from to e = by_lies (lies from to)
  where
    both : (nat_lt 32767 (to - from) ≡ false) × (nat_lt 32768 (from - to) ≡ false)
    both = or_parts (nat_lt 32767 (to - from)) (nat_lt 32768 (from - to)) e

    by_lies : Lies from to → Near 32768 (pos to -ℤ pos from)
    by_lies (Ahead n at f d) = subst (Near 32768) (sym d) (let lt : n < 32768 = omega (arith, at, ltb-false 32767 (to - from) both.0) in lt)
    by_lies (Behind n at f d) = subst (Near 32768) (sym d) (let lt : n < 32768 = omega (arith, at, ltb-false 32768 (from - to) both.1) in lt)

pub zero_near : (from to : ℕ) → (pos to -ℤ pos from) ≡ pos 0 → from ≡ to
zero_near from to z = by_lies (lies from to)
  where
    by_lies : Lies from to → from ≡ to
    by_lies (Ahead n at f d) = let none : n ≡ 0 = ap unsigned_abs (sym d ∙ z) in omega (arith, at, none)
    by_lies (Behind n at f d) = absurd (never (sym d ∙ z))
      where
        never : negsuc n ≡ pos 0 → ⊥
        never e = cc
