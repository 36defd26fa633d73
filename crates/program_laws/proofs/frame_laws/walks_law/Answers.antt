use Rattle.pass_defs.specs.Walks.{successors}
use Rattle.program_laws.proofs.Walks.{walk_on, goes_onward, goes_caught, handler_caught}
use Rattle.program_laws.proofs.frame_laws.walks_law.Goals as goal

pub returns-clause-onward : goal.returns-clause-onward
returns-clause-onward c = λ b n m x h w i. walk_on (successors b) 0 n m w (goes_onward b n x h m i)

pub returns-clause-caught : goal.returns-clause-caught
returns-clause-caught c = λ b n m x above h w t e. walk_on (successors b) 0 n m w (goes_caught b n x h m (handler_caught above b n x m t e))
