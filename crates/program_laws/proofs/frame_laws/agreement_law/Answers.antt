use Rattle.std.proofs.Common.{◌≡◌, true}
use Rattle.program_laws.proofs.Agree.{agree_set}
use Rattle.program_laws.proofs.frame_laws.agreement_law.Goals as goal

pub returns : goal.returns
returns c = λ needed later xs ys to v h a. agree_set (λ r. needed r ≡ true) (λ r. later r ≡ true) xs ys to v h a
