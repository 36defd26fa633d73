use Rattle.std.proofs.Common.{◌∙◌, ap}
use Rattle.program_model.specs.Cells.{capped}
use Rattle.thin_pass.specs.Plans.{class_changes}
use Rattle.thin_pass.proofs.Counting.{counted}
use Rattle.thin_pass.proofs.program.count_all.Goals as goal

pub loop-fates-preserved : goal.loop-fates-preserved
loop-fates-preserved c = c.saturating_add-count.ensures ∙ counted class_changes c.args.plan.now c.loop-fates.fates-index c.fates-item.result c.loop-fates.count c.count_class.result c.loop-fates-test.true c.loop-fates.invariant
    (c.count_class.ensures ∙ ap (λ ps. capped (class_changes ps)) (c.as_slice.ensures ∙ c.fates-item.is))
