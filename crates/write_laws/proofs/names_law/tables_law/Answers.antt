use Rattle.write_laws.proofs.Owning.{no_longer, owned}
use Rattle.write_laws.proofs.names_law.tables_law.Goals as goal

pub returns : goal.returns
returns c = record { shorter = no_longer; own = owned }
