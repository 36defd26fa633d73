use Rattle.loose_methods.proofs.sieve.find.Goals as goal

pub returns : goal.returns
returns c = λ wf res. c.sieve.ensures (record { formed = wf; resolved = res })
