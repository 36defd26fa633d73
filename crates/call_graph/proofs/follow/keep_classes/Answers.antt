use Rattle.call_graph.specs.Follows.{kept_class}
use Rattle.call_graph.proofs.Adds.{adds_at}
use Rattle.call_graph.proofs.follow.keep_classes.Goals as goal

pub loop-kind-preserved : goal.loop-kind-preserved
loop-kind-preserved c = λ is.
    adds_at (kept_class c.args.at.now.program.now) c.args.out.now.items c.loop-kind.out.items c.keep_class.new.out.items c.args.kinds.now c.loop-kind.kind-index _ (c.loop-kind.invariant is) c.loop-kind-test.true (c.in_ok-keep_class.ensures is)
