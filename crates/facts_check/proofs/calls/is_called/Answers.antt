use Rattle.std.proofs.Common.{refl}
use Rattle.facts_check.proofs.calls.is_called.Goals as goal

pub returns : goal.returns
returns c = λ e. record { passed = c.if-not-are_passed.ensures refl; entered = c.enters.ensures e }
