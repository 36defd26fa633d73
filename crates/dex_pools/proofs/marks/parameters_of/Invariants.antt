use Rattle.std.proofs.Common.{All}
use Rattle.dex_pools.specs.Marks.{parameter_at}
use Rattle.dex_pools.specs.ValueRange.{MarkInRange}
use Rattle.dex_pools.specs.Run.{run}
use Rattle.dex_pools.proofs.Loop.{Reads}
use Rattle.dex_pools.proofs.marks.parameters_of.Given as goal

abbrev pub invariant-loop-i : goal.invariant-loop-i
invariant-loop-i l = record {
  reads : Reads (parameter_at l.bytes l.sizes l.at) l.found.items l.count l.i l.left (run (parameter_at l.bytes l.sizes l.at) 0 l.count l.fn.left);
  range : All (All (MarkInRange l.sizes)) l.found.items;
}
