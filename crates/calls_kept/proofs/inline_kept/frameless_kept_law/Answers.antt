use Rattle.calls_kept.proofs.InlinedKept.{frameless_kept}
use Rattle.calls_kept.proofs.inline_kept.frameless_kept_law.Goals as goal

pub returns : goal.returns
returns g = λ p q h o facts admitted count origins rows w resolved acyclic typed none x formed. frameless_kept p q h facts admitted count origins rows w resolved typed x acyclic o none formed
