use Rattle.form_laws.proofs.Forms.{form_law}
use Rattle.form_laws.proofs.form_law.forms_law.Goals as goal

pub returns : goal.returns
returns c = form_law
