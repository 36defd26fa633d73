use Rattle.form_laws.proofs.Typings.{allowed_at, right_at}
use Rattle.form_laws.proofs.form_law.typings_law.Goals as goal

pub returns-clause-allowed : goal.returns-clause-allowed
returns-clause-allowed c = allowed_at

pub returns-clause-right : goal.returns-clause-right
returns-clause-right c = right_at
