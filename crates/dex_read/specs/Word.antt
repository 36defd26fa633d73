-- Numbers at places of a file.
use Rattle.std.specs.Prelude.{ℕ, List, Result}
use Rattle.dex_base.specs.Reading.{raise}
use Rattle.dex_base.specs.Word.{u16_at, u32_at}
use Rattle.dex_base.specs.Leb.{uleb_at}
use Rattle.dex_read.specs.declared.fault.DexFault.{DexFault}
use Rattle.dex_read.specs.Faults.{of_base}

abbrev pub half_at : List ℕ → ℕ → Result ℕ DexFault
half_at bytes at = raise of_base (u16_at bytes at)

abbrev pub word_at : List ℕ → ℕ → Result ℕ DexFault
word_at bytes at = raise of_base (u32_at bytes at)

-- the number in LEB128 at this place, and the place behind it
abbrev pub number_at : List ℕ → ℕ → Result (ℕ × ℕ) DexFault
number_at bytes at = raise of_base (uleb_at bytes at)
