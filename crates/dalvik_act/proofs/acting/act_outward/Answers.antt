use Rattle.std.proofs.Common.{subst}
use Rattle.dalvik_act.specs.Acted.{Fits}
use Rattle.dalvik_act.proofs.Bodies.{called, made_type}
use Rattle.dalvik_act.proofs.acting.act_outward.Goals as goal

pub returns-in-NewInstance-clause-fine : goal.returns-in-NewInstance-clause-fine
returns-in-NewInstance-clause-fine c = λ l size fits k. made_type l.program.now c.in-NewInstance.to c.in-NewInstance.kind (subst (Fits l.program.now) c.in-NewInstance.is fits)

pub returns-in-Invoke-clause-fine : goal.returns-in-Invoke-clause-fine
returns-in-Invoke-clause-fine c = λ l size fits k. called l.program.now c.in-Invoke.kind c.in-Invoke.method c.in-Invoke.args (subst (Fits l.program.now) c.in-Invoke.is fits)
