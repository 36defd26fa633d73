use Rattle.std.proofs.Common.{◌≡◌, ◌++◌, map, take, drop}
use Rattle.verify.specs.Kinds.{forgotten}
use Rattle.verify.proofs.frames.forget_all.Given as goal

abbrev pub invariant-loop-cell : goal.invariant-loop-cell
invariant-loop-cell l = l.kinds ≡ map (forgotten l.position) (take l.cell-index l.fn.kinds) ++ drop l.cell-index l.fn.kinds
