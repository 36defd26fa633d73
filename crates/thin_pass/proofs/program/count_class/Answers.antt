use Rattle.std.proofs.Common.{◌∙◌, ap}
use Rattle.thin_pass.specs.Plans.{changed_in}
use Rattle.thin_pass.proofs.Counting.{counted_all}
use Rattle.thin_pass.proofs.program.count_class.Goals as goal

pub loop-fates-preserved : goal.loop-fates-preserved
loop-fates-preserved c = c.saturating_add-count.ensures ∙ counted_all changed_in c.args.plan.now c.loop-fates.fates-index c.fates-item.result c.loop-fates.count c.count_changes.result c.loop-fates-test.true c.loop-fates.invariant
    (c.count_changes.ensures ∙ ap changed_in (c.as_slice.ensures ∙ c.fates-item.is))
