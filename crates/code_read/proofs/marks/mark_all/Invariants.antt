use Rattle.std.proofs.Common.{◌≡◌, drop}
use Rattle.code_read.specs.Marks.{set_all}
use Rattle.code_read.proofs.marks.mark_all.Given as goal

abbrev pub invariant-loop-position : goal.invariant-loop-position
invariant-loop-position l = set_all l.marks (drop l.position-index l.positions) ≡ set_all l.initial.marks l.positions
