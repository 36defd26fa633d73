use Rattle.past_law.proofs.Within.{reads, answers}
use Rattle.past_law.proofs.laws.within_law.Goals as goal

pub returns-clause-reads : goal.returns-clause-reads
returns-clause-reads c = reads

pub returns-clause-answers : goal.returns-clause-answers
returns-clause-answers c = answers
