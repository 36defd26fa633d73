use Rattle.dalvik_lookups.proofs.lookups.build.Goals as goal

pub returns-in-Ok-clause-accepted : goal.returns-in-Ok-clause-accepted
returns-in-Ok-clause-accepted c = λ h. record { once = (c.in-Ok.ensures.is h).once; acyclic = c.in-Ok.ensures.acyclic h; unsplit = c.in-Ok.ensures.unsplit h }

pub returns-in_ok-refuse-in-Err-clause-some : goal.returns-in_ok-refuse-in-Err-clause-some
returns-in_ok-refuse-in-Err-clause-some c = λ h a. absurd (c.in_ok-refuse-in-Err.ensures c.args.program.now (c.in-Err.ensures.refuses h) a)
