use Rattle.std.proofs.Common.{◌≡◌, ◌-◌, ◌≤◌, ℕ, length}
use Rattle.verify.specs.Building.{IsSettled, IsPath, Goes}
use Rattle.verify.specs.Flow.{greatest}
use Rattle.verify.proofs.chains.Chains.settle.Given as goal

abbrev pub invariant-loop : goal.invariant-loop
invariant-loop l = record {
  goes : (n : ℕ) (r : ℕ → ℕ) → n ≤ greatest → IsSettled n r l.fn.self → IsPath n l.fn.self l.fn.path.items → Goes n r l.fn.self l.self l.fn.path.items l.path.items;
  left : length l.path.items ≡ l.end - l.counter;
  supers : l.self.supers ≡ l.fn.self.supers;
}
