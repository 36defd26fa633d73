use Rattle.std.proofs.Common.{ℕ, List}
use Rattle.stub_library.specs.Listing.{AreListed}
use Rattle.stub_library.proofs.ByText.{Walked}
use Rattle.stub_library.proofs.listed.Listed.all.Given as goal

abbrev pub invariant-loop-done : goal.invariant-loop-done
invariant-loop-done l = (texts : ℕ → List ℕ) (n : ℕ) → AreListed texts n l.self → Walked texts l.text n l.at l.numbers.items l.done
