-- The faults of the layers below among those of the tables.
use Rattle.std.specs.Prelude.{Bool, true, false}
use Rattle.dex_base.specs.declared.fault.BaseFault.{BaseFault}
use Rattle.dex_base.specs.declared.fault.BaseFault.TheVariants as base
use Rattle.dex_pools.specs.declared.fault.PoolFault.{PoolFault}
use Rattle.dex_pools.specs.declared.fault.PoolFault.TheVariants.{NoMemory, Short, LongLeb, BadText, BadDescriptor}

abbrev pub of_base : BaseFault → PoolFault
of_base base.NoMemory = NoMemory
of_base (base.Short at) = Short at
of_base (base.LongLeb at) = LongLeb at
of_base (base.BadText at) = BadText at
of_base (base.BadDescriptor at) = BadDescriptor at

-- want of memory
abbrev pub is_free : PoolFault → Bool
is_free NoMemory = true
is_free _ = false
