use Rattle.dex_pools.specs.Used.{handler_names}
use Rattle.dex_pools.proofs.Names.{walks_at}
use Rattle.dex_pools.proofs.classes.walk_handlers.Goals as goal

pub loop-handler-preserved : goal.loop-handler-preserved
loop-handler-preserved c =
    walks_at handler_names c.args.used.now c.loop-handler.used c.walk_handler.new.used c.args.handlers.now c.loop-handler.handler-index _ c.loop-handler.invariant c.loop-handler-test.true c.walk_handler.ensures
