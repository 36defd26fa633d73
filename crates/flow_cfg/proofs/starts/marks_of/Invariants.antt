use Rattle.std.proofs.Common.{◌≡◌, false, replicate, drop}
use Rattle.flow_cfg.specs.Starts.{marked}
use Rattle.flow_cfg.proofs.starts.marks_of.Given as goal

abbrev pub invariant-loop-position : goal.invariant-loop-position
invariant-loop-position l = marked l.marks.items (drop l.position-index l.positions) ≡ marked (replicate l.fn.count false) l.positions
