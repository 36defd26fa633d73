use Rattle.dex_pools.specs.Used.{marks_names}
use Rattle.dex_pools.proofs.Names.{walks_on}
use Rattle.dex_pools.proofs.classes.walk_parameters.Goals as goal

pub loop-marks-preserved : goal.loop-marks-preserved
loop-marks-preserved c =
    walks_on marks_names c.args.used.now c.loop-marks.used c.walk_marks.new.used c.args.parameters.now c.loop-marks.marks-index c.marks-item.result c.loop-marks.invariant c.loop-marks-test.true c.marks-item.is (rw c.as_slice.ensures at c.walk_marks.ensures)
