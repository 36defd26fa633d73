use Rattle.form_laws.proofs.Bodies.{replaced, none_replaced}
use Rattle.form_laws.proofs.place_law.bodies_law.Goals as goal

pub returns-clause-some : goal.returns-clause-some
returns-clause-some c = replaced

pub returns-clause-none : goal.returns-clause-none
returns-clause-none c = none_replaced
