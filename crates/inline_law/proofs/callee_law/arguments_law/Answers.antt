use Rattle.inline_law.proofs.Reached.{arguments_alone}
use Rattle.inline_law.proofs.callee_law.arguments_law.Goals as goal

pub returns : goal.returns
returns g = λ p c m b t typing none r read. arguments_alone p c m b t typing none r read
