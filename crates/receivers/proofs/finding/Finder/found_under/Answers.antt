use Rattle.receivers.proofs.finding.Finder.found_under.Goals as goal

pub returns-then-not-self-clause-is : goal.returns-then-not-self-clause-is
returns-then-not-self-clause-is c = λ f r q n l plain. c.found_by_each.ensures.is f r q n l
