use Rattle.std.proofs.Common.{arith}
use Rattle.reach.specs.Closing.{is_method_met}
use Rattle.reach.proofs.More.{filtered_more}
use Rattle.reach.proofs.closing.add_methods.Goals as goal

pub loop-number-preserved : goal.loop-number-preserved
loop-number-preserved c = filtered_more (is_method_met c.args.program.now c.args.live.now) c.args.out.now.items c.args.methods.now c.loop-number.number-index _ (omega arith)
    c.loop-number.invariant c.in_ok-add_method.ensures
