use Rattle.std.proofs.Common.{◌<◌, arith}
use Rattle.fixpoint.proofs.Queue.{pushed_all, pushed_range}
use Rattle.fixpoint.proofs.worklist.all_nodes.Goals as goal

pub loop-node-preserved : goal.loop-node-preserved
loop-node-preserved c =
    let lt : c.loop-node.node < c.args.nodes = omega (arith, c.loop-node-test.true) in
    record {
      all = pushed_all _ _ _ c.loop-node.invariant.all c.in_ok-push_back.ensures.items;
      range = pushed_range _ _ _ _ lt c.loop-node.invariant.range c.in_ok-push_back.ensures.items;
    }
