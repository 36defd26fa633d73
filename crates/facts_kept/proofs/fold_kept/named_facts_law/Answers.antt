use Rattle.facts_kept.proofs.NamedFacts.{are_named}
use Rattle.facts_kept.proofs.fold_kept.named_facts_law.Goals as goal

pub returns : goal.returns
returns g = λ p h o live targets facts w r acyclic fits marks exact closed plainly.
    are_named p o live (record { formed = w; once = r.of.once; grounded = acyclic; sized = fits; closed = marks }) targets r.of.ranked plainly facts
