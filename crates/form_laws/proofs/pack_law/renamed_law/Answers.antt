use Rattle.form_laws.proofs.Renaming.{renamed_shown}
use Rattle.form_laws.proofs.pack_law.renamed_law.Goals as goal

pub returns : goal.returns
returns c = λ p o new solid all. renamed_shown p new all solid o
