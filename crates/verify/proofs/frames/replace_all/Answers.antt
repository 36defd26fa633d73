use Rattle.verify.specs.declared.kinds.Kind.TheVariants.{Undefined}
use Rattle.verify.specs.Kinds.{replaced}
use Rattle.verify.proofs.Passed.{map_on}
use Rattle.verify.proofs.frames.replace_all.Goals as goal

pub loop-cell-preserved : goal.loop-cell-preserved
loop-cell-preserved c = map_on (replaced c.args.old c.args.new) c.args.kinds.now c.loop-cell.kinds c.loop-cell.cell-index c.replaced.result Undefined c.loop-cell-test.true c.loop-cell.invariant c.replaced.ensures
