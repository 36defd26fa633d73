use Rattle.form_laws.proofs.Runs.{written_other, written_there}
use Rattle.form_laws.proofs.form_law.registers_law.Goals as goal

pub returns-clause-others : goal.returns-clause-others
returns-clause-others c = written_other

pub returns-clause-there : goal.returns-clause-there
returns-clause-there c = written_there
