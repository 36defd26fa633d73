use Rattle.facts_kept.proofs.Closing.{closed_named}
use Rattle.facts_kept.proofs.closed_bridge.accepted_closed_law.Goals as goal

pub returns : goal.returns
returns c = λ p h o live targets t formed resolved acyclic fits marks exact closed.
    closed_named p o live targets t (record { formed = formed; once = resolved.of.once; grounded = acyclic; sized = fits; closed = marks }) exact closed
