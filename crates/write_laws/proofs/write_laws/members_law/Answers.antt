use Rattle.write_laws.proofs.Listed.{members_are}
use Rattle.write_laws.proofs.write_laws.members_law.Goals as goal

pub returns : goal.returns
returns c = members_are
