use Rattle.facts_kept.proofs.Kept.{folded_kept}
use Rattle.facts_kept.proofs.fold_kept.folded_kept_law.Goals as goal

pub returns : goal.returns
returns g = λ p h o live targets facts admitted c w r acyclic typed words own fits marks exact closed names x left.
    folded_kept p h o w r acyclic typed words own live targets facts fits marks exact closed names admitted c x left
