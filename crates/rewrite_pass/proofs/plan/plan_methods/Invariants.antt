use Rattle.std.proofs.Common.{false}
use Rattle.std.specs.Prelude.{slice_index_or}
use Rattle.program_model.specs.declared.program.Method.{Method}
use Rattle.rewrite_pass.specs.Plans.{word, HasEdits, ArePlanned}
use Rattle.rewrite_pass.proofs.plan.plan_methods.Given as goal

abbrev pub invariant-loop-place : goal.invariant-loop-place
invariant-loop-place g l = ArePlanned (λ k (m : Method) es. HasEdits (g.R.Rewriting.writes l.pass) (slice_index_or l.admitted m.name false) (record { class = l.class; place = word k }) m m.body es) l.place l.methods l.plan.items
