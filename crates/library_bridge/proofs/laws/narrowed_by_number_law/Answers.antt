use Rattle.library_bridge.proofs.Narrowing.{narrowed_named, narrowed_holds}
use Rattle.library_bridge.proofs.laws.narrowed_by_number_law.Goals as goal

pub returns-clause-narrowed : goal.returns-clause-narrowed
returns-clause-narrowed c = λ p o new l wf once is. narrowed_named p wf once o new l is

pub returns-clause-holds : goal.returns-clause-holds
returns-clause-holds c = λ p o new l wf once is. narrowed_holds p wf once o new l is
