use Rattle.calls_kept.proofs.ReboundKept.{frameless, kinds_kept}
use Rattle.calls_kept.proofs.rebind_kept.kinds_kept_law.Goals as goal

pub returns : goal.returns
returns g = λ p h o facts admitted c w r acyclic typed none x. kinds_kept p h o w r acyclic typed facts admitted c x (frameless facts none)
