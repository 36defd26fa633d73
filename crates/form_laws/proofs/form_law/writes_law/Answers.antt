use Rattle.form_laws.proofs.Uses.{writes_at, writes_from, remade_width, remade_destination}
use Rattle.form_laws.proofs.form_law.writes_law.Goals as goal

pub returns-clause-behind : goal.returns-clause-behind
returns-clause-behind c = writes_at

pub returns-clause-within : goal.returns-clause-within
returns-clause-within c = writes_from

pub returns-clause-width : goal.returns-clause-width
returns-clause-width c = remade_width

pub returns-clause-destination : goal.returns-clause-destination
returns-clause-destination c = remade_destination
