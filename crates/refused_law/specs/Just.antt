-- What it means that a fault that is answered stands in the file.
use Rattle.std.specs.Prelude.{ℕ, List}
use Rattle.dex_pools.specs.declared.fault.PoolFault.{PoolFault}
use Rattle.dex_pools.specs.declared.fault.PoolFault.TheVariants as pool
use Rattle.dex_read.specs.declared.fault.DexFault.{DexFault}
use Rattle.dex_read.specs.declared.fault.DexFault.TheVariants as dex
use Rattle.dex_defs.specs.Parts.{Short, Magic, Header, Checksum, LongLeb, BadText, BadDescriptor, Index, Order, BadValue, Deep, Shorty, Code, Member, Root, FrameSize}
use Rattle.dex_defs.specs.ClassFaults.{HasFault}

-- The fault stands there, unless it is that of a limit. What is read of a list takes no memory, so want of it is never answered.
abbrev pub IsJustPool : List ℕ → PoolFault → Type 0
IsJustPool bytes pool.NoMemory = ⊥
IsJustPool bytes (pool.Short at) = HasFault bytes (Short at)
IsJustPool bytes (pool.LongLeb at) = HasFault bytes (LongLeb at)
IsJustPool bytes (pool.BadText at) = HasFault bytes (BadText at)
IsJustPool bytes (pool.BadDescriptor at) = HasFault bytes (BadDescriptor at)
IsJustPool bytes (pool.Index at value size) = HasFault bytes (Index at value size)
IsJustPool bytes (pool.Order table place) = HasFault bytes (Order table place)
IsJustPool bytes (pool.BadValue at) = HasFault bytes (BadValue at)
IsJustPool bytes (pool.Deep at) = HasFault bytes (Deep at)
IsJustPool bytes (pool.Shorty at) = HasFault bytes (Shorty at)
IsJustPool bytes (pool.Limit limit) = Unit {0}

-- the same of one that is handed on as a fault of a part, which that of a limit never is
abbrev pub IsJustPart : List ℕ → PoolFault → Type 0
IsJustPart bytes (pool.Limit limit) = ⊥
IsJustPart bytes fault = IsJustPool bytes fault

abbrev pub IsJust : List ℕ → DexFault → Type 0
IsJust bytes dex.NoMemory = ⊥
IsJust bytes (dex.Short at) = HasFault bytes (Short at)
IsJust bytes dex.Magic = HasFault bytes Magic
IsJust bytes (dex.Header at) = HasFault bytes (Header at)
IsJust bytes (dex.Checksum stored computed) = HasFault bytes (Checksum stored computed)
IsJust bytes (dex.Pool fault) = IsJustPart bytes fault
IsJust bytes (dex.Code method fault) = HasFault bytes (Code method fault)
IsJust bytes (dex.Member class place) = HasFault bytes (Member class place)
IsJust bytes (dex.Root class) = HasFault bytes (Root class)
IsJust bytes (dex.FrameSize method) = HasFault bytes (FrameSize method)
IsJust bytes (dex.Limit limit) = Unit {0}
