use Rattle.dex_pools.specs.Used.{kind_names}
use Rattle.dex_pools.proofs.Names.{walks_at}
use Rattle.dex_pools.proofs.classes.walk_kinds.Goals as goal

pub loop-kind-preserved : goal.loop-kind-preserved
loop-kind-preserved c =
    walks_at kind_names c.args.used.now c.loop-kind.used c.walk_kind.new.used c.args.kinds.now c.loop-kind.kind-index 0 c.loop-kind.invariant c.loop-kind-test.true c.walk_kind.ensures
