use Rattle.write_laws.proofs.Carried.{texts_kept}
use Rattle.write_laws.proofs.names_law.texts_law.Goals as goal

pub returns : goal.returns
returns c = texts_kept
