use Rattle.std.proofs.Common.{◌≡◌, ℕ, true, take}
use Rattle.std.specs.Prelude.{slice_index_or, Contains}
use Rattle.call_targets.specs.Marks.{Swells, Keeps, WaitsFrom}
use Rattle.call_targets.proofs.marks.Marks.mark_all.Given as goal

abbrev pub invariant-loop-number : goal.invariant-loop-number
invariant-loop-number l = record {
  swells : Swells l.fn.self l.self;
  keeps : Keeps l.fn.self l.self;
  from : WaitsFrom l.fn.self l.self (take l.number-index l.numbers);
  marked : (n : ℕ) → Contains (take l.number-index l.numbers) n → slice_index_or l.self.marks.items n true ≡ true;
}
