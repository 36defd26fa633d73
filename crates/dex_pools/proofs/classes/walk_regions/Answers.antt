use Rattle.dex_pools.specs.Used.{region_names}
use Rattle.dex_pools.proofs.Names.{walks_on}
use Rattle.dex_pools.proofs.classes.walk_regions.Goals as goal

pub loop-region-preserved : goal.loop-region-preserved
loop-region-preserved c =
    walks_on region_names c.args.used.now c.loop-region.used c.walk_region.new.used c.args.regions.now c.loop-region.region-index c.region-item.result c.loop-region.invariant c.loop-region-test.true c.region-item.is c.walk_region.ensures
