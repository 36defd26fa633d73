use Rattle.program_laws.proofs.Silenced.{silenced_typed}
use Rattle.program_laws.proofs.silence_law.silenced_typed_law.Goals as goal

pub returns : goal.returns
returns c = λ p places typed o admitted. silenced_typed p o admitted places typed
