use Rattle.std.specs.Prelude.{◌≡◌, true}
use Rattle.rebind_law.proofs.Rebinding.{rebound_shown}
use Rattle.rebind_law.proofs.rebind_law.rebound_law.Goals as goal

pub returns : goal.returns
returns c = λ p q o reaches all. rebound_shown p q o (λ f a script t. reaches f a script t ≡ true) all
