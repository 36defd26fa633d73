use Rattle.std.proofs.Common.{sym, subst}
use Rattle.std.proofs.lemmas.Result.{IfOk-weaker}
use Rattle.rewrite_pass.specs.Plans.{IsPlan}
use Rattle.quiet_methods.specs.Quiet.{AreQuiet}
use Rattle.quiet_code.specs.Quiet.{AreDropped}
use Rattle.quiet_code.specs.Quieted.{NopsWell, Nops, IsQuietPlan}
use Rattle.quiet_code.proofs.Few.{few_methods}
use Rattle.quiet_code.proofs.Plans.{plan_weaker}
use Rattle.quiet_code.proofs.pass.plan.Goals as goal

pub returns-clause-dropped : goal.returns-clause-dropped
returns-clause-dropped c =
    let p = c.args.program.now in
    let frames = c.args.facts.now.frames.items in
    let a = c.args.admitted.now.methods.items in
    IfOk-weaker c.plan_with.result (IsPlan (λ at m b es. NopsWell p c.args.hierarchy.now c.deref-2.result.now frames m b es) a p.classes) (IsPlan (λ at m b es. AreDropped b es) a p.classes)
    (λ plan all. plan_weaker (λ at m b es. NopsWell p c.args.hierarchy.now c.deref-2.result.now frames m b es) (λ at m b es. AreDropped b es) (λ at m b es w. w.dropped) a p.classes plan all) c.plan_with.ensures

pub returns-clause-quieted : goal.returns-clause-quieted
returns-clause-quieted c = λ well resolved.
    let p = c.args.program.now in
    let facts = c.args.facts.now in
    let frames = facts.frames.items in
    let quiet = c.deref-2.result.now in
    let a = c.args.admitted.now.methods.items in
    let are : AreQuiet p c.deref.result.now c.in_ok-quiet.quiet.items = c.in_ok-quiet.ensures resolved (few_methods p well) in
    IfOk-weaker c.plan_with.result (IsPlan (λ at m b es. NopsWell p c.args.hierarchy.now quiet frames m b es) a p.classes) (IsQuietPlan p facts a)
    (λ plan all. record {
      quiet = quiet;
      are_quiet = subst (AreQuiet p frames) (sym c.deref-2.ensures.value) (subst (λ fs. AreQuiet p fs c.in_ok-quiet.quiet.items) c.deref.ensures.value are);
      plans = plan_weaker (λ at m b es. NopsWell p c.args.hierarchy.now quiet frames m b es) (Nops p quiet frames) (λ at m b es w. w.nops resolved) a p.classes plan all;
    }) c.plan_with.ensures
