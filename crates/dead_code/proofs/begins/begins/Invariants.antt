use Rattle.std.proofs.Common.{length}
use Rattle.dead_code.proofs.Beginning.{BegunUpto}
use Rattle.dead_code.proofs.begins.begins.Given as goal

abbrev pub invariant-loop-region : goal.invariant-loop-region
invariant-loop-region l = BegunUpto l.body.regions (length l.body.insns) l.region-index l.marks.items
