use Rattle.value_ops.proofs.Keys.{more_keys}
use Rattle.value_ops.proofs.switches.without_all.Goals as goal

pub loop-key-preserved : goal.loop-key-preserved
loop-key-preserved c = more_keys c.args.keys.now c.loop-key.key-index _ c.args.value c.loop-key.left c.without_key-left.result c.loop-key-test.true c.loop-key.invariant c.without_key-left.ensures
