use Rattle.std.proofs.Common.{◌≡◌, true}
use Rattle.bodies_kept.proofs.Changing.{keeps_code, is_changed, related}
use Rattle.bodies_kept.proofs.change_bridge.change_law.Goals as goal

pub returns-clause-code : goal.returns-clause-code
returns-clause-code c = keeps_code

pub returns-clause-same : goal.returns-clause-same
returns-clause-same c = λ p q test unique others. is_changed (λ k a b. test k a b ≡ true) p q unique others

pub returns-clause-bodies : goal.returns-clause-bodies
returns-clause-bodies c = λ p q test unique others. related (λ k a b. test k a b ≡ true) p q unique others
