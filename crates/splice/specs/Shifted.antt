-- Registers and positions of a body into which others are copied.
use Rattle.std.specs.Prelude.{ℕ, ◌+◌, min}
pub use Rattle.body_edit.specs.Tables.{place_in}

-- a register so many higher; no register has a number past 65,535
abbrev pub shifted : ℕ → ℕ → ℕ
shifted by r = min (r + by) 65535

-- a count of positions; the greatest number of 32 bits stands for all above it
abbrev pub word : ℕ → ℕ
word n = min n 4294967295
