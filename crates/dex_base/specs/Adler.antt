-- The Adler-32 checksum of RFC 1950.
use Rattle.std.specs.Prelude.{ℕ, ◌+◌, ◌*◌, ◌%◌, List, [], ◌∷◌, sum}

-- the sums of start and the first byte, of start and the first two, and so on to all of them
abbrev pub running_sums : ℕ → List ℕ → List ℕ
running_sums start [] = []
running_sums start (b ∷ bs) = (start + b) ∷ running_sums (start + b) bs

-- s1 is 1 and the sum of all bytes, s2 the sum of the s1 after each byte, both modulo 65521
unfoldable pub adler_of : List ℕ → ℕ
adler_of bytes = sum (running_sums 1 bytes) % 65521 * 65536 + (1 + sum bytes) % 65521
