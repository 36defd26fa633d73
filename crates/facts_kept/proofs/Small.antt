-- A number that has 32 bits with its sign is one that the law of coverage calls small.
use Rattle.std.proofs.Common.{ℤ, ◌<◌, ◌^◌, All, List, [], ◌∷◌, arith}
use Rattle.std.specs.Int.{w32, cast_unsigned}
use Rattle.std.specs.Int.RustNames.{FitsSigned}
use Rattle.std.proofs.lemmas.Int.{ints}
use Rattle.std.proofs.lemmas.List.Elements.{All-head, All-tail}
use Rattle.cover_law.proofs.Ranges.{small_bits}
use Rattle.cover_law.specs.Sound.{AreSmall, IsSmall}

pub small : (z : ℤ) → FitsSigned w32 z → IsSmall z
small z h = (omega (arith, ints, h), omega (arith, ints, h))

pub all_small : (zs : List ℤ) → All (FitsSigned w32) zs → AreSmall zs
all_small [] h = tt
all_small (z ∷ zs) h = (small z (All-head (FitsSigned w32) z zs h), all_small zs (All-tail (FitsSigned w32) z zs h))

pub bits : (z : ℤ) → FitsSigned w32 z → cast_unsigned w32 z < 2 ^ 32
bits z h = small_bits z (small z h)
