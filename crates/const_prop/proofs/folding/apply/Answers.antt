use Rattle.std.proofs.Common.{subst}
use Rattle.rewrite_pass.specs.Plans.{IsWritten}
use Rattle.const_prop.proofs.Plans.{none_left}
use Rattle.const_prop.proofs.Measured.{folds_less}
use Rattle.const_prop.proofs.folding.apply.Goals as goal

pub returns-clause-none_left : goal.returns-clause-none_left
returns-clause-none_left c = λ well resolved. none_left c.args.program c.args.hierarchy.now c.args.facts.now c.args.admitted.now.methods.items c.in_ok-changed.changed (record {
  plan = c.in_ok-plan.plan;
  asked = c.in_ok-plan.ensures.folded well resolved;
  written = subst (λ plan. IsWritten plan c.args.program c.in_ok-changed.changed) c.as_slice.ensures c.in_ok-changed.ensures;
})

pub returns-clause-less : goal.returns-clause-less
returns-clause-less c = folds_less c.args.admitted.now.methods.items c.args.program c.in_ok-changed.changed (record {
  plan = c.in_ok-plan.plan;
  asked = c.in_ok-plan.ensures.becomes;
  written = subst (λ plan. IsWritten plan c.args.program c.in_ok-changed.changed) c.as_slice.ensures c.in_ok-changed.ensures;
})
