use Rattle.form_laws.proofs.TypedRenaming.{renamed_typed}
use Rattle.form_laws.proofs.pack_law.renamed_typed_law.Goals as goal

pub returns : goal.returns
returns c = renamed_typed
