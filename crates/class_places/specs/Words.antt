-- Places as numbers of 32 bits.
use Rattle.std.specs.Prelude.{ℕ, ◌-◌, ◌^◌, nat_lt, if◌then◌else◌}

-- a place as a number of 32 bits, the greatest of them where it is too great
abbrev pub word_of : ℕ → ℕ
word_of n = if nat_lt n (2 ^ 32) then n else 2 ^ 32 - 1
