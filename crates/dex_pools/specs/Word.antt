-- Numbers and indexes at places of a file.
use Rattle.std.specs.Prelude.{ℕ, List, Result, Ok, Err, nat_lt, if◌then◌else◌}
use Rattle.dex_base.specs.Reading.{◌>>=◌, raise}
use Rattle.dex_base.specs.Word.{u16_at, u32_at}
use Rattle.dex_base.specs.Leb.{uleb_at}
use Rattle.dex_pools.specs.declared.fault.PoolFault.{PoolFault}
use Rattle.dex_pools.specs.declared.fault.PoolFault.TheVariants.{Index}
use Rattle.dex_pools.specs.Fault.{of_base}

abbrev pub half_at : List ℕ → ℕ → Result ℕ PoolFault
half_at bytes at = raise of_base (u16_at bytes at)

abbrev pub word_at : List ℕ → ℕ → Result ℕ PoolFault
word_at bytes at = raise of_base (u32_at bytes at)

-- the number in LEB128 at this place, and the place behind it
abbrev pub number_at : List ℕ → ℕ → Result (ℕ × ℕ) PoolFault
number_at bytes at = raise of_base (uleb_at bytes at)

-- a number below the size of a table
unfoldable pub index_at : List ℕ → ℕ → ℕ → Result ℕ PoolFault
index_at bytes at size = word_at bytes at >>= λ n. if nat_lt n size then Ok n else Err (Index at n size)

unfoldable pub half_index_at : List ℕ → ℕ → ℕ → Result ℕ PoolFault
half_index_at bytes at size = half_at bytes at >>= λ n. if nat_lt n size then Ok n else Err (Index at n size)
