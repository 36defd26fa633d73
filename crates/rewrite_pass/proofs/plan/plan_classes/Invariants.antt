use Rattle.program_model.specs.declared.program.Class.{Class}
use Rattle.rewrite_pass.specs.Plans.{word, HasPlan, ArePlanned}
use Rattle.rewrite_pass.proofs.plan.plan_classes.Given as goal

abbrev pub invariant-loop-place : goal.invariant-loop-place
invariant-loop-place g l = ArePlanned (λ k (c : Class) ps. HasPlan (g.R.Rewriting.writes l.pass) l.admitted (word k) c.methods ps) l.place l.classes l.plan.items
