use Rattle.static_kept.proofs.Kept.{staticised_kept}
use Rattle.static_kept.proofs.Made.{plan_of}
use Rattle.static_kept.proofs.static_kept.static_kept_law.Goals as goal

pub returns : goal.returns
returns g = λ p h o live targets facts admitted c w r acyclic whole typed words own fits marks exact closed names x.
    staticised_kept p h o w r acyclic whole typed words own live targets facts fits marks exact closed names admitted (plan_of p facts o admitted w) c x
