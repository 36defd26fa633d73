use Rattle.std.specs.Prelude.{◌≡◌, true}
use Rattle.rebind_law.proofs.Others.{others_changed}
use Rattle.rebind_law.proofs.rebind_law.others_law.Goals as goal

pub returns : goal.returns
returns c = λ B p q h. others_changed (λ k n f g. B k n f g ≡ true) p q h
