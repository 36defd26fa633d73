-- A word and a wide are spelled by their own bits.
use Rattle.std.proofs.Common.{◌≡◌, ℕ, ◌<◌, ◌^◌, ap, true, false}
use Rattle.std.specs.Int.{w32, w64, cast_signed}
use Rattle.std.proofs.Math.Nat.{mod-eq_of_lt}
use Rattle.dalvik_defs.specs.Arith.{signed}

pub signed_word : (a : ℕ) → a < 2 ^ 32 → signed false a ≡ cast_signed w32 a
signed_word a h = ap (cast_signed w32) (mod-eq_of_lt h)

pub signed_wide : (a : ℕ) → a < 2 ^ 64 → signed true a ≡ cast_signed w64 a
signed_wide a h = ap (cast_signed w64) (mod-eq_of_lt h)
