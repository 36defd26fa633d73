use Rattle.form_laws.proofs.Asking.{allowed_held}
use Rattle.form_laws.proofs.form_law.held_law.Goals as goal

pub returns : goal.returns
returns c = allowed_held
