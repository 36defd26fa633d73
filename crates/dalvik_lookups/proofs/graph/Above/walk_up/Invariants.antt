use Rattle.std.proofs.Common.{◌≡◌, ℕ, ◌-◌, true, vec_len}
use Rattle.std.specs.Prelude.{Contains}
use Rattle.dalvik_lookups.specs.Walks.{is_on, is_met, left, IsWalking, AllAbove}
use Rattle.dalvik_lookups.proofs.graph.Above.walk_up.Given as goal

abbrev pub invariant-loop-number : goal.invariant-loop-number
invariant-loop-number l = record {
  size : vec_len l.marks.marks ≡ vec_len l.fn.marks.marks;
  met : (n : ℕ) → is_met l.fn.marks n ≡ true → is_met l.marks n ≡ true;
  from : (x : ℕ) → AllAbove l.self x l.fn.marks.listed.items → AllAbove l.self x l.marks.listed.items;
  walking : ((n : ℕ) → is_on l.fn.marks n ≡ true → Contains l.fn.marks.listed.items n) → IsWalking l.self l.marks l.next;
}

abbrev pub decreases-loop-number : goal.decreases-loop-number
decreases-loop-number l = left l.marks - l.next
