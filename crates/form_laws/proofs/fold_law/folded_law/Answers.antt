use Rattle.std.specs.Prelude.{◌≡◌, true}
use Rattle.form_laws.proofs.Folding.{folded_always}
use Rattle.form_laws.proofs.fold_law.folded_law.Goals as goal

pub returns : goal.returns
returns c = λ p o new reaches solid all. folded_always p new o (λ f a script t. reaches f a script t ≡ true) all solid
