use Rattle.std.proofs.Common.{ap}
use Rattle.dex_write.specs.Sets.{ordered_marks}
use Rattle.dex_write.proofs.MarkLemmas.{added_take}
use Rattle.dex_write.proofs.marks.push_sets.Goals as goal

pub loop-marks-preserved : goal.loop-marks-preserved
loop-marks-preserved c = added_take c.args.numbers.now (ordered_marks c.args.numbers.now) c.args.sets.now c.loop-marks.marks-index c.marks-item.result _ _ _ _ _ _ _ c.loop-marks-test.true c.marks-item.is (ap (ordered_marks c.args.numbers.now) c.as_slice.ensures) c.loop-marks.invariant c.in_ok-push_set.ensures
