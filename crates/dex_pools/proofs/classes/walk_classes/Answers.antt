use Rattle.dex_pools.specs.Used.{class_names}
use Rattle.dex_pools.proofs.Names.{walks_on}
use Rattle.dex_pools.proofs.classes.walk_classes.Goals as goal

pub loop-class-preserved : goal.loop-class-preserved
loop-class-preserved c =
    walks_on class_names c.args.used.now c.loop-class.used c.walk_class.new.used c.args.classes.now c.loop-class.class-index c.class-item.result c.loop-class.invariant c.loop-class-test.true c.class-item.is c.walk_class.ensures
