use Rattle.std.proofs.Common.{◌≡◌, ◌-◌, ◌++◌, length, Some}
use Rattle.verify.specs.Building.{climbed}
use Rattle.verify.proofs.chains.Chains.climb.Given as goal

abbrev pub invariant-loop : goal.invariant-loop
invariant-loop l = l.path.items ++ climbed (l.end - l.counter) l.self l.at ≡ climbed (length l.self.supers.items) l.self (Some l.class)
