use Rattle.write_laws.proofs.Closed.{used_closed, names_used}
use Rattle.write_laws.proofs.names_law.closed_law.Goals as goal

pub returns : goal.returns
returns c = record { closed = used_closed; named = names_used }
