use Rattle.std.proofs.Common.{refl, arith}
use Rattle.copy_prop.specs.Propagated.{IsPropagatedMethod}
use Rattle.copy_prop.proofs.Edited.{one_edited, sums_to_some}
use Rattle.copy_prop.proofs.pass.propagate_methods.Goals as goal

pub loop-place-preserved : goal.loop-place-preserved
loop-place-preserved c = one_edited (IsPropagatedMethod c.args.widths.now c.args.admitted.now) c.args.methods.now c.loop-place.methods c.loop-place.place c.loop-place.count c.in_ok-more.more c.saturating_add-count.result _ _ c.propagate_method.new.method (omega arith) refl c.loop-place.invariant c.in_ok-more.ensures.is c.in_ok-more.ensures.count
    (λ e. (omega arith, omega arith)) (λ lt. sums_to_some c.loop-place.count c.in_ok-more.more (omega arith))
