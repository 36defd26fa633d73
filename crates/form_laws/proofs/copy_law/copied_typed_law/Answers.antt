use Rattle.form_laws.proofs.TypedReads.{copied_typed}
use Rattle.form_laws.proofs.copy_law.copied_typed_law.Goals as goal

pub returns : goal.returns
returns c = copied_typed
