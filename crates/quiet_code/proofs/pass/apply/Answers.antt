use Rattle.std.proofs.Common.{subst}
use Rattle.rewrite_pass.specs.Plans.{IsWritten, IsRewrittenBy}
use Rattle.quiet_code.specs.Quieted.{Nops}
use Rattle.quiet_code.proofs.Plans.{none_left}
use Rattle.quiet_code.proofs.Lighter.{nops_less}
use Rattle.quiet_code.proofs.pass.apply.Goals as goal

pub returns-clause-quieted : goal.returns-clause-quieted
returns-clause-quieted c = λ well resolved.
    let p = c.args.program in
    let a = c.args.admitted.now.methods.items in
    let frames = c.args.facts.now.frames.items in
    let w = c.in_ok-plan.ensures.quieted well resolved in
    let r : IsRewrittenBy (Nops p w.quiet frames) a p c.in_ok-changed.changed = record {
      plan = c.in_ok-plan.plan;
      asked = w.plans;
      written = subst (λ plan. IsWritten plan p c.in_ok-changed.changed) c.as_slice.ensures c.in_ok-changed.ensures;
    } in
    record { quiet = w.quiet; are_quiet = w.are_quiet; rewritten = r; none_left = none_left p w.quiet frames a c.in_ok-changed.changed r }

pub returns-clause-less : goal.returns-clause-less
returns-clause-less c = nops_less c.args.admitted.now.methods.items c.args.program c.in_ok-changed.changed (record {
  plan = c.in_ok-plan.plan;
  asked = c.in_ok-plan.ensures.dropped;
  written = subst (λ plan. IsWritten plan c.args.program c.in_ok-changed.changed) c.as_slice.ensures c.in_ok-changed.ensures;
})
