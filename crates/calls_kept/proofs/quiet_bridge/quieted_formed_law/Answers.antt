use Rattle.calls_kept.proofs.Programs.{quieted_formed}
use Rattle.calls_kept.proofs.quiet_bridge.quieted_formed_law.Goals as goal

pub returns : goal.returns
returns c = λ p facts admitted changed fits q. quieted_formed p q.quiet facts.frames.items admitted changed fits q.rewritten
