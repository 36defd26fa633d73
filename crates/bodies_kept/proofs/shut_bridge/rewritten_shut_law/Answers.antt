use Rattle.std.proofs.Common.{◌≡◌, true}
use Rattle.bodies_kept.proofs.RewrittenShut.{rewritten_keeps}
use Rattle.bodies_kept.proofs.shut_bridge.rewritten_shut_law.Goals as goal

pub returns : goal.returns
returns c = λ writes admitted p quiet d o r. rewritten_keeps (λ at m b es. writes at m b es ≡ true) admitted p quiet d o r
