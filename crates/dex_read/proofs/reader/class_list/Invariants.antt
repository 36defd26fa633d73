use Rattle.std.proofs.Common.{◌≡◌, vec_len}
use Rattle.dex_pools.specs.Run.{run}
use Rattle.dex_pools.proofs.Loop.{Reads}
use Rattle.dex_read.specs.File.{class_in}
use Rattle.dex_read.proofs.reader.class_list.Given as goal

abbrev pub invariant-loop-place : goal.invariant-loop-place
invariant-loop-place l = record {
  reads : Reads (class_in l.source.bytes.now l.source.program.now l.offset) l.classes.items l.count l.place l.budget (run (class_in l.source.bytes.now l.source.program.now l.offset) 0 l.count l.fn.budget);
  count : vec_len l.classes ≡ l.place;
}
