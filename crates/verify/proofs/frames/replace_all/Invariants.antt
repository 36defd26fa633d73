use Rattle.std.proofs.Common.{◌≡◌, ◌++◌, map, take, drop}
use Rattle.verify.specs.Kinds.{replaced}
use Rattle.verify.proofs.frames.replace_all.Given as goal

abbrev pub invariant-loop-cell : goal.invariant-loop-cell
invariant-loop-cell l = l.kinds ≡ map (replaced l.old l.new) (take l.cell-index l.fn.kinds) ++ drop l.cell-index l.fn.kinds
