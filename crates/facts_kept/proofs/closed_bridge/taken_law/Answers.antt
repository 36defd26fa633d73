use Rattle.facts_kept.proofs.Taking.{taken_named}
use Rattle.facts_kept.proofs.closed_bridge.taken_law.Goals as goal

pub returns : goal.returns
returns c p o live targets t g exact lives flows = λ k n to r v at taker e results. taken_named p o live g targets exact t lives flows k n to r at taker e v results
