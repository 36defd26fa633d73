use Rattle.std.proofs.Common.{arith}
use Rattle.body_edit.specs.Places.{place_in}
use Rattle.body_edit.proofs.Each.{each_more}
use Rattle.body_edit.proofs.targets.move_targets.Goals as goal

pub loop-target-preserved : goal.loop-target-preserved
loop-target-preserved c = each_more (place_in c.args.places.now) c.args.targets.now c.loop-target.targets c.loop-target.target-index _ _ (omega arith) c.loop-target.invariant c.of.ensures
