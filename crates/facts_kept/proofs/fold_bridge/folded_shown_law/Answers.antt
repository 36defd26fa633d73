use Rattle.facts_kept.proofs.Shown.{same_shown}
use Rattle.facts_kept.proofs.fold_bridge.folded_shown_law.Goals as goal

pub returns : goal.returns
returns g = same_shown
