use Rattle.bodies_kept.proofs.Veiling.{emptied_typing}
use Rattle.bodies_kept.proofs.dead_bridge.emptied_typing_law.Goals as goal

pub returns : goal.returns
returns c = λ p k m b t typing live dead h. emptied_typing p k m b t typing live dead h
