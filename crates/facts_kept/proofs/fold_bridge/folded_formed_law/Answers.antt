use Rattle.facts_kept.proofs.FormedPrograms.{folded_formed}
use Rattle.facts_kept.proofs.fold_bridge.folded_formed_law.Goals as goal

pub returns : goal.returns
returns g = λ p h facts admitted c fits changed. folded_formed p h facts admitted c fits changed
