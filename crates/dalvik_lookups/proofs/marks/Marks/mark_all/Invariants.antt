use Rattle.std.proofs.Common.{◌≡◌, ℕ, true, take}
use Rattle.std.specs.Prelude.{Contains}
use Rattle.dalvik_lookups.specs.Walks.{is_met, Grow}
use Rattle.dalvik_lookups.proofs.marks.Marks.mark_all.Given as goal

abbrev pub invariant-loop-number : goal.invariant-loop-number
invariant-loop-number l = record {
  grow : Grow l.fn.self l.self (take l.number-index l.numbers);
  marked : (n : ℕ) → Contains (take l.number-index l.numbers) n → is_met l.self n ≡ true;
}
