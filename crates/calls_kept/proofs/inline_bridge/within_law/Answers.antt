use Rattle.calls_kept.proofs.InlinedBodies.{is_within}
use Rattle.calls_kept.proofs.inline_bridge.within_law.Goals as goal

pub returns : goal.returns
returns g = λ p at c m b w is_class is_method has low. is_within p w at.class at.place c m b is_class is_method has low
