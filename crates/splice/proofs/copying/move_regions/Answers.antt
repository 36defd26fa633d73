use Rattle.std.proofs.Common.{arith}
use Rattle.pass_defs.specs.Thinned.{region_moved}
use Rattle.splice.specs.Shifted.{place_in}
use Rattle.splice.proofs.Each.{each_more}
use Rattle.splice.proofs.copying.move_regions.Goals as goal

pub loop-region-preserved : goal.loop-region-preserved
loop-region-preserved c = each_more (region_moved (place_in c.args.places.now)) c.args.regions.now c.loop-region.regions c.loop-region.region-index _ _ (omega arith) c.loop-region.invariant c.move_region.ensures
