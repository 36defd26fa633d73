use Rattle.code_read.proofs.MarkLaws.{targets_say, handlers_say}
use Rattle.code_read.proofs.laws.marks_law.Goals as goal

pub returns-clause-targets : goal.returns-clause-targets
returns-clause-targets c = targets_say

pub returns-clause-handlers : goal.returns-clause-handlers
returns-clause-handlers c = handlers_say
