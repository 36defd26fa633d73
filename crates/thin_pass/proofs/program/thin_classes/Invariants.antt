use Rattle.thin_pass.specs.Wishing.{HasFates}
use Rattle.thin_pass.proofs.Planning.{ClassesPlanned}
use Rattle.thin_pass.proofs.program.thin_classes.Given as goal

abbrev pub invariant-loop-class : goal.invariant-loop-class
invariant-loop-class g l = ClassesPlanned (HasFates (g.T.Thinning.wishes l.pass) l.admitted) l.initial.classes l.classes l.plan.items l.class-index
