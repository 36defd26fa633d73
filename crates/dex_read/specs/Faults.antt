-- How the faults of the layers below are handed on.
use Rattle.std.specs.Prelude.{Bool, true, false}
use Rattle.dex_base.specs.declared.fault.BaseFault.{BaseFault}
use Rattle.dex_base.specs.declared.fault.BaseFault.TheVariants as base
use Rattle.dex_pools.specs.declared.fault.PoolFault.{PoolFault}
use Rattle.dex_pools.specs.declared.fault.PoolFault.TheVariants as pool
use Rattle.dex_read.specs.declared.fault.DexFault.{DexFault}
use Rattle.dex_read.specs.declared.fault.DexFault.TheVariants.{NoMemory, Pool, Limit}

-- want of memory and a passed limit are handed on as such, not wrapped
abbrev pub of_pool : PoolFault → DexFault
of_pool pool.NoMemory = NoMemory
of_pool (pool.Limit limit) = Limit limit
of_pool fault = Pool fault

abbrev pub of_base : BaseFault → DexFault
of_base base.NoMemory = NoMemory
of_base (base.Short at) = Pool (pool.Short at)
of_base (base.LongLeb at) = Pool (pool.LongLeb at)
of_base (base.BadText at) = Pool (pool.BadText at)
of_base (base.BadDescriptor at) = Pool (pool.BadDescriptor at)

-- want of memory
abbrev pub is_free : DexFault → Bool
is_free NoMemory = true
is_free _ = false
