use Rattle.refused_code.proofs.Faultless.{reads, answers}
use Rattle.refused_code.proofs.laws.faultless_law.Goals as goal

pub returns-clause-reads : goal.returns-clause-reads
returns-clause-reads c = reads

pub returns-clause-answers : goal.returns-clause-answers
returns-clause-answers c = answers
