-- The limits that are passed are inside the file.
use Rattle.std.proofs.Common.{Result, subst}
use Rattle.dex_base.specs.Reading.{FailsIf}
use Rattle.dex_pools.specs.declared.fault.PoolFault.{PoolFault}
use Rattle.dex_pools.specs.declared.fault.PoolFault.TheVariants as pool
use Rattle.dex_pools.specs.Fault.{is_free}
use Rattle.dex_read.specs.Counts.{CountsInFile, PoolCounts}
use Rattle.dex_read.specs.Faults.{of_pool}
use Rattle.dex_read.proofs.Counting.{Counts, Fails}

-- a fault that a layer below answers, where it gives what is read
pub handed_on : {Y : Type 0} (e : PoolFault) (read : Result Y PoolFault) → FailsIf (is_free e) e read → Counts read → CountsInFile (of_pool e)
handed_on pool.NoMemory read given h = tt
handed_on (pool.Limit l) read given h = (subst (λ s. Fails PoolCounts s) given h).fault
handed_on _ read given h = tt
