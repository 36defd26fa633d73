use Rattle.std.proofs.Common.{subst}
use Rattle.rewrite_pass.specs.Plans.{IsWritten}
use Rattle.devirt.proofs.Nothing.{none_left}
use Rattle.devirt.proofs.Weighed.{calls_fall}
use Rattle.devirt.proofs.pass.apply.Goals as goal

pub returns-clause-none_left : goal.returns-clause-none_left
returns-clause-none_left c = λ well resolved straight.
    none_left c.args.program c.args.hierarchy.now c.args.facts.now well resolved straight c.args.admitted.now.methods.items (c.short_law.ensures c.args.program well) c.in_ok-changed.changed (record {
      plan = c.in_ok-plan.plan;
      asked = c.in_ok-plan.ensures.rebound well resolved;
      written = subst (λ plan. IsWritten plan c.args.program c.in_ok-changed.changed) c.as_slice.ensures c.in_ok-changed.ensures;
    })

pub returns-clause-falls : goal.returns-clause-falls
returns-clause-falls c = λ well resolved.
    calls_fall c.args.program resolved.of.ranked c.args.hierarchy.now c.args.facts.now c.args.admitted.now.methods.items c.in_ok-changed.changed (record {
      plan = c.in_ok-plan.plan;
      asked = c.in_ok-plan.ensures.rebound well resolved;
      written = subst (λ plan. IsWritten plan c.args.program c.in_ok-changed.changed) c.as_slice.ensures c.in_ok-changed.ensures;
    })
