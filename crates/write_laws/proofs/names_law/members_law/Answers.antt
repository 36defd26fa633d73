use Rattle.write_laws.proofs.Reordered.{same_members}
use Rattle.write_laws.proofs.names_law.members_law.Goals as goal

pub returns : goal.returns
returns c = same_members
