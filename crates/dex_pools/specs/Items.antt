-- Entries of lists, which are counted, and lists of types.
use Rattle.std.specs.Prelude.{ℕ, ◌+◌, ◌-◌, ◌*◌, List, length, Result, Ok, Err, nat_le, if◌then◌else◌}
use Rattle.dex_base.specs.Reading.{◌>>=◌}
use Rattle.program_model.specs.declared.limits.Counted.{Counted}
use Rattle.program_model.specs.declared.limits.Counted.TheVariants.{Items}
use Rattle.program_model.specs.Limits.{limit_of}
use Rattle.dex_pools.specs.declared.fault.PoolFault.{PoolFault}
use Rattle.dex_pools.specs.declared.fault.PoolFault.TheVariants.{Limit, Short}
use Rattle.dex_pools.specs.Word.{word_at, half_index_at}
use Rattle.dex_pools.specs.Run.{run}

-- one more than the limit
abbrev pub past : Counted → PoolFault
past counted = Limit (record { counted = counted; number = limit_of counted + 1 })

-- what is left behind so many
unfoldable pub spend : Counted → ℕ → ℕ → Result ℕ PoolFault
spend counted count left = if nat_le count left then Ok (left - count) else Err (past counted)

-- so many entries of this width behind the count at this place, none where they pass the end of the bytes
unfoldable pub count_at : List ℕ → ℕ → ℕ → Result ℕ PoolFault
count_at bytes at width = word_at bytes at >>= λ count. if nat_le (at + 4 + width * count) (length bytes) then Ok count else Err (Short at)

-- an entry of the list of types at this place, and what it leaves
unfoldable pub listed_at : List ℕ → ℕ → ℕ → ℕ → ℕ → Result (ℕ × ℕ) PoolFault
listed_at bytes at size i left = do
  behind ← spend Items 1 left
  kind ← half_index_at bytes (at + 4 + 2 * i) size
  Ok (kind, behind)

-- the list of types at this place, and what its entries leave
unfoldable pub type_list_at : List ℕ → ℕ → ℕ → ℕ → Result (List ℕ × ℕ) PoolFault
type_list_at bytes at size left = count_at bytes at 2 >>= λ count. run (listed_at bytes at size) 0 count left
