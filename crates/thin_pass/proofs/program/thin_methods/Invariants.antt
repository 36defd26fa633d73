use Rattle.thin_pass.specs.Wishing.{HasFates}
use Rattle.thin_pass.proofs.Planning.{Planned}
use Rattle.thin_pass.proofs.program.thin_methods.Given as goal

abbrev pub invariant-loop-method : goal.invariant-loop-method
invariant-loop-method g l = Planned (HasFates (g.T.Thinning.wishes l.pass) l.admitted) l.initial.methods l.methods l.plan.items l.method-index
