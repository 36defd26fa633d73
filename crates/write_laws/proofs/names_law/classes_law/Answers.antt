use Rattle.write_laws.proofs.Keeping.{classes_kept}
use Rattle.write_laws.proofs.names_law.classes_law.Goals as goal

pub returns : goal.returns
returns c = classes_kept
