use Rattle.std.proofs.Common.{◌≤◌, length}
use Rattle.dex_pools.specs.Run.{run}
use Rattle.dex_pools.proofs.Loop.{Reads}
use Rattle.dex_read.specs.ClassData.{method_at}
use Rattle.dex_read.proofs.class_data.methods_of.Given as goal

abbrev pub invariant-loop-place : goal.invariant-loop-place
invariant-loop-place l = record {
  reads : Reads (method_at l.source.bytes.now l.source.program.now l.owner l.is_listed_direct l.earlier) l.entries.items l.count l.place (l.next, l.last) (run (method_at l.source.bytes.now l.source.program.now l.owner l.is_listed_direct l.earlier) 0 l.count (l.at, 0));
  inside : l.next ≤ length l.source.bytes.now;
}
