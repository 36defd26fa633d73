use Rattle.calls_kept.proofs.Programs.{quieted_others}
use Rattle.calls_kept.proofs.quiet_bridge.quieted_bodies_law.Goals as goal

pub returns : goal.returns
returns c = λ p facts admitted changed q. quieted_others p q.quiet facts.frames.items admitted changed q.rewritten
