use Rattle.dex_pools.specs.Used.{method_names}
use Rattle.dex_pools.proofs.Names.{walks_on}
use Rattle.dex_pools.proofs.classes.walk_methods.Goals as goal

pub loop-method-preserved : goal.loop-method-preserved
loop-method-preserved c =
    walks_on method_names c.args.used.now c.loop-method.used c.walk_method.new.used c.args.methods.now c.loop-method.method-index c.method-item.result c.loop-method.invariant c.loop-method-test.true c.method-item.is c.walk_method.ensures
