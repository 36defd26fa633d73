-- A count that stops at the greatest number of 64 bits is compared with lower numbers as the whole count is.
use Rattle.std.proofs.Common.{◌≡◌, ◌<◌, ◌-◌, ◌^◌, ℕ, nat_le, nat_eq, arith}
use Rattle.program_model.specs.Cells.{capped}

pub within_cap : (n k : ℕ) → k < 2 ^ 64 - 1 → nat_le (capped n) k ≡ nat_le n k
within_cap n k small = grind arith

pub same_as_capped : (k n : ℕ) → k < 2 ^ 64 - 1 → nat_eq k (capped n) ≡ nat_eq k n
same_as_capped k n small = grind arith
