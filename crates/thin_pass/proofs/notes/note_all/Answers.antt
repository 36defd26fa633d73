use Rattle.std.proofs.Common.{List, length, sym, ap, ◌∙◌, arith, get_or}
use Rattle.program_model.specs.declared.program.Method.{Method}
use Rattle.body_edit.specs.declared.fate.Fate.{Fate}
use Rattle.thin_pass.specs.Plans.{class_origins, all_origins}
use Rattle.thin_pass.proofs.Planning.{all_step, all_end, long_classes, long_at}
use Rattle.thin_pass.proofs.notes.note_all.Goals as goal

pub loop-place-preserved : goal.loop-place-preserved
loop-place-preserved c = all_step c.args.classes.now c.args.plan.now c.loop-place.place c.index-classes-place.result c.index-plan-place.result c.loop-place.origins.items c.note_class.new.origins.items (all_origins c.args.classes.now c.args.plan.now c.args.origins.now.items) c.loop-place-test.true
    (omega (arith, long_classes c.args.classes.now c.args.plan.now c.requires))
    (c.in_ok-note_class.ensures ∙ ap (λ (ms : List Method). class_origins ms c.as_slice.result.now c.loop-place.origins.items) c.as_slice-methods.ensures
    ∙ ap (λ (ps : List (List Fate)). class_origins (get_or c.args.classes.now c.loop-place.place c.index-classes-place.result).methods ps c.loop-place.origins.items) (c.as_slice.ensures ∙ c.index-plan-place.is)) c.loop-place.invariant

pub bounds-plan-place : goal.bounds-plan-place
bounds-plan-place c = omega (arith, long_classes c.args.classes.now c.args.plan.now c.requires)

pub note_class-requires : goal.note_class-requires
note_class-requires c =
    ap length c.as_slice-methods.ensures
    ∙ long_at c.args.classes.now c.args.plan.now c.loop-place.place c.index-classes-place.result c.index-plan-place.result c.requires (omega (arith, long_classes c.args.classes.now c.args.plan.now c.requires))
    ∙ sym (ap length (c.as_slice.ensures ∙ c.index-plan-place.is))

pub returns : goal.returns
returns c = all_end c.args.classes.now c.args.plan.now c.loop-place.place c.loop-place.origins.items (all_origins c.args.classes.now c.args.plan.now c.args.origins.now.items) c.loop-place-test.false c.loop-place.invariant
