-- Numbers of a few bytes fit the width that they are read in.
use Rattle.std.proofs.Common.{◌≡◌, ℕ, suc, negsuc, ◌+◌, ◌*◌, ◌^◌, ◌<◌, ◌≤◌, ◌-◌, ℤ, pos, ◌-ℤ◌, Bool, true, false, List, [], ◌∷◌, length, slice_index, nat_lt, refl, arith, ltb-true, ltb-false}
use Rattle.std.specs.Prelude.{FitsSigned, if◌then◌else◌}
use Rattle.std.specs.Int.{Width, w8, w16, w32, w64, from_le_bytes}
use mir.Val.{hbits}
use lib.Signed.{mag}
use Rattle.std.proofs.lemmas.Int.{ints}
use Rattle.byteorder.specs.Endian.{little_number, twos_complement}
use Rattle.dex_pools.specs.Value.{sign_extended}

pub zero_16 : (few : List ℕ) → length few ≤ 2 → little_number (length few) few ≡ from_le_bytes w16 few
zero_16 [] h = refl
zero_16 (a ∷ []) h = omega arith
zero_16 (a ∷ b ∷ []) h = omega arith
zero_16 (a ∷ b ∷ c ∷ few) h = absurd (omega arith)

pub zero_32 : (few : List ℕ) → length few ≤ 4 → little_number (length few) few ≡ from_le_bytes w32 few
zero_32 [] h = refl
zero_32 (a ∷ []) h = omega arith
zero_32 (a ∷ b ∷ []) h = omega arith
zero_32 (a ∷ b ∷ c ∷ []) h = omega arith
zero_32 (a ∷ b ∷ c ∷ d ∷ []) h = omega arith
zero_32 (a ∷ b ∷ c ∷ d ∷ e ∷ few) h = absurd (omega arith)

pub eight : (bytes : List ℕ) → little_number 8 bytes ≡ from_le_bytes w64 bytes
eight bytes = omega arith

-- each item is a byte
abbrev pub AreBytes : List ℕ → Type 0
AreBytes few = (i : ℕ) → slice_index few i < 256

-- a number of so many bytes, in two's complement
low : {w : Width} (x m : ℕ) (b : Bool) → nat_lt x m ≡ b → m ≤ 2 ^ hbits w → x < 2 * m → FitsSigned w (if b then pos x else pos x -ℤ pos (2 * m))
low {w = w} x m true e most h = let below = ltb-true x m e in record { sfits = below_half x m below most }
  where
    below_half : (x m : ℕ) → x < m → m ≤ 2 ^ hbits w → x < 2 ^ hbits w
    below_half x m a b = omega arith
low {w = w} x m false e most h = above_half x m (ltb-false x m e) h most
  where
    is : (x y : ℕ) → x < y → pos x -ℤ pos y ≡ negsuc (y - suc x)
    is x y h = omega (arith, ints)

    differs : (x m : ℕ) → m ≤ x → x < 2 * m → mag (pos x -ℤ pos (2 * m)) < m
    differs x m a b = rw (is x (2 * m) b) (omega arith)

    above_half : (x m : ℕ) → m ≤ x → x < 2 * m → m ≤ 2 ^ hbits w → FitsSigned w (pos x -ℤ pos (2 * m))
    above_half x m a b c = let d = differs x m a b in record { sfits = omega arith }

pub fits_8 : (few : List ℕ) → length few ≡ 1 → AreBytes few → FitsSigned w8 (sign_extended few)
unfolding sign_extended
fits_8 [] h bytes = absurd (omega arith)
fits_8 (a ∷ []) h bytes = let s = bytes 0 in low {w = w8} (a + 256 * 0) (2 ^ 7) (nat_lt (a + 256 * 0) (2 ^ 7)) refl (omega arith) (omega arith)
fits_8 (a ∷ b ∷ few) h bytes = absurd (omega arith)

pub fits_16 : (few : List ℕ) → 1 ≤ length few → length few ≤ 2 → AreBytes few → FitsSigned w16 (sign_extended few)
unfolding sign_extended
fits_16 [] some most bytes = absurd (omega arith)
fits_16 (a ∷ []) some most bytes = let s = bytes 0 in low {w = w16} (a + 256 * 0) (2 ^ 7) (nat_lt (a + 256 * 0) (2 ^ 7)) refl (omega arith) (omega arith)
fits_16 (a ∷ b ∷ []) some most bytes = let s = bytes 0 in let t = bytes 1 in
    low {w = w16} (a + 256 * (b + 256 * 0)) (2 ^ 15) (nat_lt (a + 256 * (b + 256 * 0)) (2 ^ 15)) refl (omega arith) (omega arith)
fits_16 (a ∷ b ∷ c ∷ few) some most bytes = absurd (omega arith)

pub fits_32 : (few : List ℕ) → 1 ≤ length few → length few ≤ 4 → AreBytes few → FitsSigned w32 (sign_extended few)
unfolding sign_extended
fits_32 [] some most bytes = absurd (omega arith)
fits_32 (a ∷ []) some most bytes = let s = bytes 0 in low {w = w32} (a + 256 * 0) (2 ^ 7) (nat_lt (a + 256 * 0) (2 ^ 7)) refl (omega arith) (omega arith)
fits_32 (a ∷ b ∷ []) some most bytes = let s = bytes 0 in let t = bytes 1 in
    low {w = w32} (a + 256 * (b + 256 * 0)) (2 ^ 15) (nat_lt (a + 256 * (b + 256 * 0)) (2 ^ 15)) refl (omega arith) (omega arith)
fits_32 (a ∷ b ∷ c ∷ []) some most bytes = let s = bytes 0 in let t = bytes 1 in let u = bytes 2 in
    low {w = w32} (a + 256 * (b + 256 * (c + 256 * 0))) (2 ^ 23) (nat_lt (a + 256 * (b + 256 * (c + 256 * 0))) (2 ^ 23)) refl (omega arith) (omega arith)
fits_32 (a ∷ b ∷ c ∷ d ∷ []) some most bytes = let s = bytes 0 in let t = bytes 1 in let u = bytes 2 in let v = bytes 3 in
    low {w = w32} (a + 256 * (b + 256 * (c + 256 * (d + 256 * 0)))) (2 ^ 31) (nat_lt (a + 256 * (b + 256 * (c + 256 * (d + 256 * 0)))) (2 ^ 31)) refl (omega arith) (omega arith)
fits_32 (a ∷ b ∷ c ∷ d ∷ e ∷ few) some most bytes = absurd (omega arith)
