use Rattle.facts_kept.proofs.Shown.{same_run}
use Rattle.facts_kept.proofs.fold_bridge.folded_run_law.Goals as goal

pub returns : goal.returns
returns g = λ p h o facts t admitted c f floats script fits twice ancestor changed names tabled fit. same_run p h o facts t admitted c fits twice ancestor changed names f floats script tabled fit
