use Rattle.std.proofs.Common.{List, sym, ap, ◌∙◌, subst, arith}
use Rattle.body_edit.specs.declared.fate.Fate.{Fate}
use Rattle.thin_pass.specs.Wishing.{HasFates}
use Rattle.thin_pass.specs.Plans.{AreForClasses, classes_by}
use Rattle.thin_pass.proofs.Planning.{classes_first, classes_more, classes_all}
use Rattle.thin_pass.proofs.program.thin_classes.Goals as goal

pub loop-class-init : goal.loop-class-init
loop-class-init g c = classes_first (HasFates (g.T.Thinning.wishes c.args.pass.now) c.args.admitted.now) c.args.classes.now c.in_ok-plan.plan.items c.in_ok-plan.ensures.items

pub loop-class-preserved : goal.loop-class-preserved
loop-class-preserved g c = classes_more (HasFates (g.T.Thinning.wishes c.args.pass.now) c.args.admitted.now) c.args.classes.now c.loop-class.classes c.loop-class.plan.items c.push.new.self.items c.loop-class.class-index c.class-item.result c.thin_class.new.class c.in_ok-thin_class.field-0
    (omega arith) c.loop-class.invariant c.in_ok-thin_class.ensures.thins c.in_ok-thin_class.ensures.by c.in_ok-push.ensures.items

pub returns : goal.returns
returns g c = record {
  thins = subst (AreForClasses (HasFates (g.T.Thinning.wishes c.args.pass.now) c.args.admitted.now) c.args.classes.now) (sym c.of_vec.ensures) (classes_all (HasFates (g.T.Thinning.wishes c.args.pass.now) c.args.admitted.now) c.args.classes.now c.loop-class.classes c.loop-class.plan.items c.loop-class.class-index c.loop-class-test.false c.loop-class.invariant);
  by = c.loop-class.invariant.by ∙ ap (λ (l : List (List (List Fate))). classes_by l c.args.classes.now) (sym c.of_vec.ensures);
}
