use Rattle.std.proofs.Common.{arith}
use Rattle.reach.specs.Closing.{is_class_met}
use Rattle.reach.proofs.More.{classes_more}
use Rattle.reach.proofs.closing.add_classes.Goals as goal

pub loop-one-preserved : goal.loop-one-preserved
loop-one-preserved c = classes_more (is_class_met c.args.live.now) c.args.out.now.items c.args.classes.now c.loop-one.one-index _ (omega arith)
    c.loop-one.invariant c.in_ok-add_class.ensures
