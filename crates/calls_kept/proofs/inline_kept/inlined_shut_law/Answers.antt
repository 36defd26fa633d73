use Rattle.calls_kept.proofs.InlinedKept.{inlined_holds}
use Rattle.calls_kept.proofs.inline_kept.inlined_shut_law.Goals as goal

pub returns : goal.returns
returns g = λ p q h facts admitted count origins rows o w resolved typed x. inlined_holds p q h facts admitted count origins rows w resolved typed x o
