use Rattle.calls_kept.proofs.ReboundShuts.{rebound_holds}
use Rattle.calls_kept.proofs.rebind_kept.rebound_shut_law.Goals as goal

pub returns : goal.returns
returns g = λ p h facts admitted c o w x. rebound_holds p w h facts admitted c o x
