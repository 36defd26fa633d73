use Rattle.std.proofs.Common.{refl, arith}
use Rattle.compact.specs.Renamed.{IsCompactedMethod}
use Rattle.compact.proofs.Edited.{one_edited, sums_to_some}
use Rattle.compact.proofs.pass.compact_methods.Goals as goal

pub loop-place-preserved : goal.loop-place-preserved
loop-place-preserved c = one_edited (IsCompactedMethod c.args.widths.now c.args.admitted.now) c.args.methods.now c.loop-place.methods c.loop-place.place c.loop-place.count c.in_ok-more.more c.saturating_add-count.result _ _ c.compact_method.new.method (omega arith) refl c.loop-place.invariant c.in_ok-more.ensures.is c.in_ok-more.ensures.count
    (λ e. (omega arith, omega arith)) (λ lt. sums_to_some c.loop-place.count c.in_ok-more.more (omega arith))
