use Rattle.std.proofs.Common.{arith}
use Rattle.splice.specs.Shifted.{place_in}
use Rattle.splice.proofs.Each.{each_more}
use Rattle.splice.proofs.copying.move_targets.Goals as goal

pub loop-target-preserved : goal.loop-target-preserved
loop-target-preserved c = each_more (place_in c.args.places.now) c.args.targets.now c.loop-target.targets c.loop-target.target-index _ _ (omega arith) c.loop-target.invariant c.place_in.ensures
