use Rattle.std.specs.Prelude.{◌≡◌, true}
use Rattle.thin_laws.proofs.Dropped.{quiet_shown}
use Rattle.thin_laws.proofs.quiet_law.quiet_law.Goals as goal

pub returns : goal.returns
returns c = λ p q o gone spare quiet rank reached sound h known. quiet_shown p (λ k n. gone k n ≡ true) (λ k n. spare k n ≡ true) o (λ k. quiet k ≡ true) rank sound (λ f a script t. reached f a script t ≡ true) q h known
