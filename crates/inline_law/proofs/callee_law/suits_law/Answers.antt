use Rattle.inline_law.proofs.Reached.{suits_all}
use Rattle.inline_law.proofs.callee_law.suits_law.Goals as goal

pub returns : goal.returns
returns g = λ p c m b t typing unguarded none taken h j w. suits_all p c m b t typing unguarded none taken h j w
