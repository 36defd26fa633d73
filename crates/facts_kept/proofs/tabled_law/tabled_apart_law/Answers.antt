use Rattle.facts_kept.proofs.Apart.{tabled_apart}
use Rattle.facts_kept.proofs.tabled_law.tabled_apart_law.Goals as goal

pub returns : goal.returns
returns c = tabled_apart
