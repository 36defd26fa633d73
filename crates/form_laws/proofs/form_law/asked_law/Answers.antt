use Rattle.form_laws.proofs.Asked.{asked_read}
use Rattle.form_laws.proofs.form_law.asked_law.Goals as goal

pub returns : goal.returns
returns c = asked_read
