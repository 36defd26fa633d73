use Rattle.inline_law.proofs.Passing.{passes_typed}
use Rattle.inline_law.proofs.inline_law.passing_law.Goals as goal

pub returns : goal.returns
returns e = λ p c ks ts rs met long. passes_typed p c ks ts rs met long
