use Rattle.std.specs.Prelude.{All}
use Rattle.std.proofs.lemmas.Result.{IfOk-weaker}
use Rattle.rewrite_pass.specs.Plans.{IsPlan}
use Rattle.devirt.specs.Asked.{ReboundWell}
use Rattle.devirt.specs.Rebound.{IsRebindingPlan, IsRecalledAt}
use Rattle.devirt.proofs.Judged.{asked_so, plan_becomes, plan_of, plan_rebound}
use Rattle.devirt.proofs.pass.plan.Goals as goal

pub plan_program-requires : goal.plan_program-requires
plan_program-requires c =
    asked_so (record { binder = record { finder = c.in_ok-new.field-0 }; facts = c.args.facts; verifier = c.in_ok-make.field-0 }) c.args.program.now c.args.hierarchy.now c.in_ok-new.ensures.of.0 c.in_ok-new.ensures.of.1 c.in_ok-make.ensures c.in_ok-new.ensures.finds

pub returns-clause-becomes : goal.returns-clause-becomes
returns-clause-becomes c =
    let p = c.args.program.now in
    let h = c.args.hierarchy.now in
    let facts = c.args.facts.now in
    let a = c.args.admitted.now.methods.items in
    let f = c.in_ok-new.field-0 in
    IfOk-weaker c.plan_program.result (IsPlan (ReboundWell f.program.now f.hierarchy.now facts) a p.classes) (IsPlan (λ at m b es. All (IsRecalledAt b) es) a p.classes)
    (λ plan all. plan_becomes p h facts a plan (plan_of p f.program.now h f.hierarchy.now facts a p.classes plan c.in_ok-new.ensures.of.0 c.in_ok-new.ensures.of.1 all)) c.plan_program.ensures

pub returns-clause-rebound : goal.returns-clause-rebound
returns-clause-rebound c = λ well resolved.
    let p = c.args.program.now in
    let h = c.args.hierarchy.now in
    let facts = c.args.facts.now in
    let a = c.args.admitted.now.methods.items in
    let f = c.in_ok-new.field-0 in
    IfOk-weaker c.plan_program.result (IsPlan (ReboundWell f.program.now f.hierarchy.now facts) a p.classes) (IsRebindingPlan p h facts a)
    (λ plan all. plan_rebound p h facts a plan (plan_of p f.program.now h f.hierarchy.now facts a p.classes plan c.in_ok-new.ensures.of.0 c.in_ok-new.ensures.of.1 all) (well, resolved)) c.plan_program.ensures
