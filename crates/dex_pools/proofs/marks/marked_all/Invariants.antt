use Rattle.std.proofs.Common.{◌≡◌, length, All}
use Rattle.dex_pools.specs.Marks.{marked_at}
use Rattle.dex_pools.specs.ValueRange.{MarkInRange}
use Rattle.dex_pools.specs.Run.{run}
use Rattle.dex_pools.proofs.Loop.{Reads}
use Rattle.dex_pools.proofs.marks.marked_all.Given as goal

abbrev pub invariant-loop-i : goal.invariant-loop-i
invariant-loop-i l = record {
  reads : Reads (marked_at l.bytes l.sizes l.at) l.found.items l.count l.i l.left (run (marked_at l.bytes l.sizes l.at) 0 l.count l.fn.left);
  sized : length l.found.items ≡ l.i;
  range : All (MarkInRange l.sizes) l.found.items;
}
