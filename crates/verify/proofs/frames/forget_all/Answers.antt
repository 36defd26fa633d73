use Rattle.verify.specs.declared.kinds.Kind.TheVariants.{Undefined}
use Rattle.verify.specs.Kinds.{forgotten}
use Rattle.verify.proofs.Passed.{map_on}
use Rattle.verify.proofs.frames.forget_all.Goals as goal

pub loop-cell-preserved : goal.loop-cell-preserved
loop-cell-preserved c = map_on (forgotten c.args.position) c.args.kinds.now c.loop-cell.kinds c.loop-cell.cell-index c.forgotten.result Undefined c.loop-cell-test.true c.loop-cell.invariant c.forgotten.ensures
