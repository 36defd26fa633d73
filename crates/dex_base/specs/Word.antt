-- Numbers of fixed width, little-endian.
use Rattle.std.specs.Prelude.{◌≡◌, ◌+◌, ◌≤◌, ◌<◌, ℕ, List, length, take, drop, Result, Ok, Err, nat_le, if◌then◌else◌}
use Rattle.std.specs.Int.{w16, w32, from_le_bytes}
use Rattle.dex_base.specs.declared.fault.BaseFault.{BaseFault}
use Rattle.dex_base.specs.declared.fault.BaseFault.TheVariants.{Short}

-- the number in two bytes at this place
unfoldable pub u16_at : List ℕ → ℕ → Result ℕ BaseFault
u16_at bytes at = if nat_le (at + 2) (length bytes) then Ok (from_le_bytes w16 (take 2 (drop at bytes))) else Err (Short at)

-- the number in four bytes at this place
unfoldable pub u32_at : List ℕ → ℕ → Result ℕ BaseFault
u32_at bytes at = if nat_le (at + 4) (length bytes) then Ok (from_le_bytes w32 (take 4 (drop at bytes))) else Err (Short at)

-- the two bytes at this place are the number
pub record Is16 (bytes : List ℕ) (at : ℕ) (n : ℕ) : Type 0 where
  pub inside : at + 2 ≤ length bytes
  pub spelled : n ≡ from_le_bytes w16 (take 2 (drop at bytes))

-- the four bytes at this place are the number
pub record Is32 (bytes : List ℕ) (at : ℕ) (n : ℕ) : Type 0 where
  pub inside : at + 4 ≤ length bytes
  pub spelled : n ≡ from_le_bytes w32 (take 4 (drop at bytes))

-- the bytes end inside so many from this place on
abbrev pub IsShort : List ℕ → ℕ → ℕ → BaseFault → Type 0
IsShort bytes at size fault = (length bytes < at + size) × (fault ≡ Short at)
