use Rattle.copy_prop.specs.Propagated.{AreReread}
use Rattle.copy_prop.proofs.pass.reread_all.Given as goal

abbrev pub invariant-loop-place : goal.invariant-loop-place
invariant-loop-place l = AreReread l.table l.place l.count l.initial.insns l.insns
