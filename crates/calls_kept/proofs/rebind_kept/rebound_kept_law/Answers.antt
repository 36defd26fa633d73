use Rattle.calls_kept.proofs.ReboundKept.{rebound_kept}
use Rattle.calls_kept.proofs.rebind_kept.rebound_kept_law.Goals as goal

pub returns : goal.returns
returns g = λ p h o live targets facts admitted c w r acyclic typed words own fits marks exact closed names x.
    rebound_kept p h o w r acyclic typed facts admitted c x words own live targets fits marks exact closed names
