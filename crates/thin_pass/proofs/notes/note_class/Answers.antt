use Rattle.std.proofs.Common.{List, get_or, ap, ◌∙◌, arith}
use Rattle.body_edit.specs.declared.fate.Fate.{Fate}
use Rattle.thin_pass.specs.Plans.{noted, class_origins}
use Rattle.thin_pass.proofs.Planning.{origins_step, origins_end}
use Rattle.thin_pass.proofs.notes.note_class.Goals as goal

pub loop-place-preserved : goal.loop-place-preserved
loop-place-preserved c = origins_step c.args.methods.now c.args.plan.now c.loop-place.place c.index-methods-place.result c.index-plan-place.result c.loop-place.origins.items c.note.new.origins.items (class_origins c.args.methods.now c.args.plan.now c.args.origins.now.items) c.loop-place-test.true (omega arith)
    (c.in_ok-note.ensures ∙ ap (λ (fs : List Fate). noted (get_or c.args.methods.now c.loop-place.place c.index-methods-place.result).name fs c.loop-place.origins.items) (c.as_slice.ensures ∙ c.index-plan-place.is)) c.loop-place.invariant

pub returns : goal.returns
returns c = origins_end c.args.methods.now c.args.plan.now c.loop-place.place c.loop-place.origins.items (class_origins c.args.methods.now c.args.plan.now c.args.origins.now.items) c.loop-place-test.false c.loop-place.invariant
