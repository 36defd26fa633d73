use Rattle.std.proofs.Common.{List, sym, ap, ◌∙◌, subst, arith}
use Rattle.body_edit.specs.declared.fate.Fate.{Fate}
use Rattle.thin_pass.specs.Wishing.{HasFates}
use Rattle.thin_pass.specs.Plans.{AreFor, methods_by}
use Rattle.thin_pass.proofs.Planning.{planned_first, planned_more, planned_all}
use Rattle.thin_pass.proofs.program.thin_methods.Goals as goal

pub loop-method-init : goal.loop-method-init
loop-method-init g c = planned_first (HasFates (g.T.Thinning.wishes c.args.pass.now) c.args.admitted.now) c.args.methods.now c.in_ok-plan.plan.items c.in_ok-plan.ensures.items

pub loop-method-preserved : goal.loop-method-preserved
loop-method-preserved g c = planned_more (HasFates (g.T.Thinning.wishes c.args.pass.now) c.args.admitted.now) c.args.methods.now c.loop-method.methods c.loop-method.plan.items c.push.new.self.items c.loop-method.method-index c.method-item.result c.thin_one.new.method c.in_ok-thin_one.field-0
    (omega arith) c.loop-method.invariant c.in_ok-thin_one.ensures.fates c.in_ok-thin_one.ensures.by c.in_ok-push.ensures.items

pub returns : goal.returns
returns g c = record {
  thins = subst (AreFor (HasFates (g.T.Thinning.wishes c.args.pass.now) c.args.admitted.now) c.args.methods.now) (sym c.of_vec.ensures) (planned_all (HasFates (g.T.Thinning.wishes c.args.pass.now) c.args.admitted.now) c.args.methods.now c.loop-method.methods c.loop-method.plan.items c.loop-method.method-index c.loop-method-test.false c.loop-method.invariant);
  by = c.loop-method.invariant.by ∙ ap (λ (l : List (List Fate)). methods_by l c.args.methods.now) (sym c.of_vec.ensures);
}
