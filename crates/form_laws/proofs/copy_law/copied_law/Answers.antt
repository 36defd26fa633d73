use Rattle.form_laws.proofs.Copying.{copied_shown}
use Rattle.form_laws.proofs.copy_law.copied_law.Goals as goal

pub returns : goal.returns
returns c = λ p o new solid all. copied_shown p new all solid o
