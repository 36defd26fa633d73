use Rattle.std.proofs.Common.{◌≡◌, ℕ, []}
use Rattle.verify.specs.Building.{IsSettled, IsDoneBelow}
use Rattle.verify.proofs.chains.Chains.settle_all.Given as goal

abbrev pub invariant-loop-class : goal.invariant-loop-class
invariant-loop-class l = record {
  goes : (r : ℕ → ℕ) → IsSettled l.classes r l.fn.self → IsDoneBelow l.classes r l.self l.class;
  empty : l.path.items ≡ [];
  supers : l.self.supers ≡ l.fn.self.supers;
}
