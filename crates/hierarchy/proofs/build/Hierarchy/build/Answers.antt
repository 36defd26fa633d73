use Rattle.hierarchy.proofs.Acyclic.{built_acyclic}
use Rattle.hierarchy.proofs.Answered.{resolved}
use Rattle.hierarchy.proofs.Placed.{filled, refused, stopped}
use Rattle.hierarchy.proofs.build.Hierarchy.build.Goals as goal

pub returns-in-Ok-clause-is : goal.returns-in-Ok-clause-is
returns-in-Ok-clause-is c = λ h. filled c.args.program.now c.in-Ok.shape c.complete.result h c.in-Ok.ensures.made c.complete.ensures.links (c.complete.ensures.names h)

pub returns-in-Ok-clause-refuses : goal.returns-in-Ok-clause-refuses
returns-in-Ok-clause-refuses c = λ h. refused c.args.program.now c.in-Ok.shape c.complete.result h c.in-Ok.ensures.made (c.complete.ensures.refuses h c.in-Ok.ensures.made)

pub returns-in-Err-clause-refuses : goal.returns-in-Err-clause-refuses
returns-in-Err-clause-refuses c = λ h. stopped c.args.program.now c.in-Err.fault h c.in-Err.ensures.stops

pub returns-in-Ok-clause-acyclic : goal.returns-in-Ok-clause-acyclic
returns-in-Ok-clause-acyclic c = λ h. built_acyclic c.args.program.now c.complete.result (filled c.args.program.now c.in-Ok.shape c.complete.result h c.in-Ok.ensures.made c.complete.ensures.links (c.complete.ensures.names h))

pub returns-in-Ok-clause-resolved : goal.returns-in-Ok-clause-resolved
returns-in-Ok-clause-resolved c = λ h. resolved c.args.program.now c.complete.result (filled c.args.program.now c.in-Ok.shape c.complete.result h c.in-Ok.ensures.made c.complete.ensures.links (c.complete.ensures.names h)) c.complete.ensures.targets (c.complete.ensures.starts h) (c.complete.ensures.trivial h c.in-Ok.ensures.made) (c.complete.ensures.toured h c.in-Ok.ensures.made)

pub returns-in-Ok-clause-unsplit : goal.returns-in-Ok-clause-unsplit
returns-in-Ok-clause-unsplit c = λ h. c.complete.ensures.unsplit h c.in-Ok.ensures.made
