use Rattle.dom_frame.proofs.Reading.{value_put, value_none}
use Rattle.dom_frame.proofs.laws.registers_are_values.Goals as goal

pub returns-clause-put : goal.returns-clause-put
returns-clause-put c = value_put

pub returns-clause-none : goal.returns-clause-none
returns-clause-none c = value_none
