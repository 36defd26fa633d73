-- Which quantities a limit names that is passed inside a file.
use Rattle.std.specs.Prelude.{◌≡◌, ◌+◌, Bool, true, false, IsTrue}
use Rattle.program_model.specs.Limits.{limit_of}
use Rattle.program_model.specs.declared.limits.Counted.{Counted}
use Rattle.program_model.specs.declared.limits.Counted.TheVariants.{RuleBytes, FileBytes, ScriptBytes}
use Rattle.program_model.specs.declared.limits.LimitFault.{LimitFault}
use Rattle.dex_pools.specs.declared.fault.PoolFault.{PoolFault}
use Rattle.dex_pools.specs.declared.fault.PoolFault.TheVariants as pool
use Rattle.dex_read.specs.declared.fault.DexFault.{DexFault}
use Rattle.dex_read.specs.declared.fault.DexFault.TheVariants.{Limit}

-- what is counted inside a file: cells, entries of tables and lists, units of texts; no bytes
abbrev pub is_in_file : Counted → Bool
is_in_file RuleBytes = false
is_in_file FileBytes = false
is_in_file ScriptBytes = false
is_in_file _ = true

-- The limit of such a quantity is passed, by one: they are counted one by one.
pub record PassesInFile (fault : LimitFault) : Type 0 where
  pub counted : IsTrue (is_in_file fault.counted)
  pub number : fault.number ≡ limit_of fault.counted + 1

-- Where the fault is a passed limit, it is that of such a quantity.
abbrev pub CountsInFile : DexFault → Type 0
CountsInFile (Limit fault) = PassesInFile fault
CountsInFile _ = Unit {0}

-- the same of tables, values and annotations
abbrev pub PoolCounts : PoolFault → Type 0
PoolCounts (pool.Limit fault) = PassesInFile fault
PoolCounts _ = Unit {0}
