use Rattle.std.proofs.Common.{arith}
use Rattle.pass_defs.specs.Thinned.{region_moved}
use Rattle.body_edit.specs.Places.{place_in}
use Rattle.body_edit.proofs.Each.{each_more}
use Rattle.body_edit.proofs.targets.move_regions.Goals as goal

pub loop-region-preserved : goal.loop-region-preserved
loop-region-preserved c = each_more (region_moved (place_in c.args.places.now)) c.args.regions.now c.loop-region.regions c.loop-region.region-index _ _ (omega arith) c.loop-region.invariant c.move_region.ensures
