use Rattle.form_laws.proofs.Demanded.{allowed_named}
use Rattle.form_laws.proofs.form_law.demands_law.Goals as goal

pub returns : goal.returns
returns c = allowed_named
