use Rattle.class_defs.proofs.WellFormed.{sound}
use Rattle.removal_bridge.proofs.Formed.{no_object}
use Rattle.facts_kept.proofs.Beginning.{begins_named}
use Rattle.facts_kept.proofs.Fielding.{gets_same}
use Rattle.facts_kept.proofs.Fits.{all_fit}
use Rattle.facts_kept.proofs.Flowing.{goes_on_named, returns_named, throws_named}
use Rattle.facts_kept.proofs.closed_bridge.flows_law.Goals as goal

pub returns-clause-onward : goal.returns-clause-onward
returns-clause-onward c p fits once t more = goes_on_named p (sound p fits) t once (no_object p fits) (all_fit p (sound p fits) t) (gets_same p (sound p fits) t once (no_object p fits)) more

pub returns-clause-thrown : goal.returns-clause-thrown
returns-clause-thrown c p fits t more = throws_named p (sound p fits) t more

pub returns-clause-returned : goal.returns-clause-returned
returns-clause-returned c p fits t more = returns_named p (sound p fits) t more

pub returns-clause-begun : goal.returns-clause-begun
returns-clause-begun c p fits t more = begins_named p (sound p fits) t more
