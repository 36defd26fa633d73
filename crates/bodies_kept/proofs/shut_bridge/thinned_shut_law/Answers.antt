use Rattle.std.proofs.Common.{◌≡◌, true}
use Rattle.bodies_kept.proofs.PassesShut.{thinned_keeps}
use Rattle.bodies_kept.proofs.shut_bridge.thinned_shut_law.Goals as goal

pub returns : goal.returns
returns c = λ wishes admitted p d o t. thinned_keeps (λ b ws. wishes b ws ≡ true) admitted p d o t
