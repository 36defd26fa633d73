use Rattle.form_laws.proofs.TypedRereading.{reread_typed}
use Rattle.form_laws.proofs.copy_law.reread_typed_law.Goals as goal

pub returns : goal.returns
returns c = reread_typed
