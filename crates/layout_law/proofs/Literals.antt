-- Literals that were read fit where they stood.
use Rattle.std.proofs.Common.{◌≡◌, ℕ, suc, ◌+◌, ◌-◌, ◌*◌, ◌%◌, ◌^◌, ◌<◌, ◌≤◌, Bool, true, false, cond, leb, ltb, refl, sym, ap, ◌∙◌, inl, inr, arith}
use Rattle.std.specs.Prelude.{ℤ, pos, negsuc, neg_ℤ, int_rem}
use Rattle.std.specs.Int.{w64, cast_signed}
use Rattle.std.specs.Cmp.{signed_Decides}
use Rattle.std.proofs.lemmas.Bool.{cases_lt, lt-ltb, le-ltb, le-leb}
use Rattle.insn_set.specs.Spelling.{within, fits_nibble, fits_byte, fits_short, fits_int, is_multiple}
use Rattle.code_read.specs.Forms.{nibble, byte, short, word}
use Rattle.read_laws.proofs.FieldBounds.{of_span}
use Rattle.code_read.specs.Opcodes.{from_to}
use Rattle.lemmas.proofs.Bools.{and_both}

range : (low high n : ℕ) → low ≤ n → n ≤ high → from_to n low high ≡ true
range low high n h g = and_both (leb low n) (leb n high) (le-leb low n h) (le-leb n high g)

pub nibble_fits : (n : ℕ) → n < 16 → fits_nibble (nibble n) ≡ true
unfolding nibble
nibble_fits n h = of_span (λ k. fits_nibble (nibble k)) 0 15 n refl (range 0 15 n (omega arith) (omega (arith, h)))

in_pos : (k h n : ℕ) → n ≤ h → within (negsuc k) (pos h) (pos n) ≡ true
in_pos k h n l = le-leb n h l

in_neg : (k h n : ℕ) → n ≤ k → within (negsuc k) (pos h) (negsuc n) ≡ true
in_neg k h n l = rw (le-leb n k l) refl

pub short_fits : (n : ℕ) → n < 65536 → fits_short (short n) ≡ true
short_fits n h =
    elim (cases_lt n 32768) [
      | inl lt ↦ rw (lt-ltb n 32768 lt) (in_pos 32767 32767 n (omega (arith, lt)))
      | inr le ↦ rw (le-ltb n 32768 le) (in_neg 32767 32767 (65536 - suc n) (omega (arith, le)))
    ]

pub byte_fits : (n : ℕ) → fits_byte (byte n) ≡ true
byte_fits n =
    let small : n % 256 < 256 = omega arith in
    elim (cases_lt (n % 256) 128) [
      | inl lt ↦ rw (lt-ltb (n % 256) 128 lt) (in_pos 127 127 (n % 256) (omega (arith, lt)))
      | inr le ↦ rw (le-ltb (n % 256) 128 le) (in_neg 127 127 (256 - suc (n % 256)) (omega (arith, le)))
    ]

pub word_fits : (n : ℕ) → fits_int (word n) ≡ true
word_fits n =
    let small : n % 4294967296 < 4294967296 = omega arith in
    elim (cases_lt (n % 4294967296) 2147483648) [
      | inl lt ↦ rw (lt-ltb (n % 4294967296) 2147483648 lt) (in_pos 2147483647 2147483647 (n % 4294967296) (omega (arith, lt)))
      | inr le ↦ rw (le-ltb (n % 4294967296) 2147483648 le) (in_neg 2147483647 2147483647 (4294967296 - suc (n % 4294967296)) (omega (arith, le)))
    ]

by_rest : (z : ℤ) (unit : ℕ) → int_rem z (pos unit) ≡ pos 0 → is_multiple z unit ≡ true
by_rest z unit h = (signed_Decides (int_rem z (pos unit)) (pos 0)).1 h

none_left : (n : ℕ) → n ≡ 0 → neg_ℤ (pos n) ≡ pos 0
none_left n e = ap (λ k. neg_ℤ (pos k)) e

pub word_high : (n : ℕ) → n < 65536 → is_multiple (word (n * 65536)) 65536 ≡ true
word_high n h =
    let same : n * 65536 % 4294967296 ≡ n * 65536 = omega (arith, h) in
    elim (cases_lt (n * 65536) 2147483648) [
      | inl lt ↦ (let rest : n * 65536 % 65536 ≡ 0 = omega arith in rw (same, lt-ltb (n * 65536) 2147483648 lt) (by_rest (pos (n * 65536)) 65536 (ap (λ (k : ℕ). pos k) rest)))
      | inr le ↦ (let rest : suc (4294967296 - suc (n * 65536)) % 65536 ≡ 0 = omega (arith, h) in
          rw (same, le-ltb (n * 65536) 2147483648 le) (by_rest (negsuc (4294967296 - suc (n * 65536))) 65536 (none_left (suc (4294967296 - suc (n * 65536)) % 65536) rest)))
    ]

pub long_high : (n : ℕ) → n < 65536 → is_multiple (cast_signed w64 (n * 281474976710656)) 281474976710656 ≡ true
long_high n h =
    elim (cases_lt (n * 281474976710656) 9223372036854775808) [
      | inl lt ↦ (let rest : n * 281474976710656 % 281474976710656 ≡ 0 = omega arith in
          rw (lt-ltb (n * 281474976710656) 9223372036854775808 lt) (by_rest (pos (n * 281474976710656)) 281474976710656 (ap (λ (k : ℕ). pos k) rest)))
      | inr le ↦ (let rest : suc (18446744073709551616 - suc (n * 281474976710656)) % 281474976710656 ≡ 0 = omega (arith, h) in
          rw (le-ltb (n * 281474976710656) 9223372036854775808 le) (by_rest (negsuc (18446744073709551616 - suc (n * 281474976710656))) 281474976710656 (none_left (suc (18446744073709551616 - suc (n * 281474976710656)) % 281474976710656) rest)))
    ]
