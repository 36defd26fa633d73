use Rattle.std.proofs.Common.{◌<◌, All}
use Rattle.dex_pools.specs.Items.{listed_at}
use Rattle.dex_pools.specs.Run.{run}
use Rattle.dex_pools.proofs.Loop.{Reads}
use Rattle.dex_pools.proofs.items.listed_types.Given as goal

abbrev pub invariant-loop-i : goal.invariant-loop-i
invariant-loop-i l = record {
  reads : Reads (listed_at l.bytes l.at l.size) l.found.items l.count l.i l.left (run (listed_at l.bytes l.at l.size) 0 l.count l.fn.left);
  below : All (λ n. n < l.size) l.found.items;
}
