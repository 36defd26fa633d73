use Rattle.std.proofs.Common.{◌≤◌, length}
use Rattle.dex_pools.specs.Run.{run}
use Rattle.dex_pools.proofs.Loop.{Reads}
use Rattle.dex_read.specs.ClassData.{field_at}
use Rattle.dex_read.proofs.class_data.fields_of.Given as goal

abbrev pub invariant-loop-place : goal.invariant-loop-place
invariant-loop-place l = record {
  reads : Reads (field_at l.source.bytes.now l.source.program.now l.owner l.is_listed_static l.earlier) l.entries.items l.count l.place (l.next, l.last) (run (field_at l.source.bytes.now l.source.program.now l.owner l.is_listed_static l.earlier) 0 l.count (l.at, 0));
  inside : l.next ≤ length l.source.bytes.now;
}
