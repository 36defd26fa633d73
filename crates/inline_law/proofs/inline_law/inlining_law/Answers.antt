use Rattle.std.specs.Prelude.{◌≡◌, true}
use Rattle.inline_law.proofs.Programs.{inlining_shown}
use Rattle.inline_law.proofs.inline_law.inlining_law.Goals as goal

pub returns : goal.returns
returns c = λ p q o accepted need level reached h others enterable facts start.
    inlining_shown p q (λ k n r. need k n r ≡ true) accepted h others o level (λ f a script t. reached f a script t ≡ true) enterable (λ f a script fit. (facts f a script fit, start f a script fit))
