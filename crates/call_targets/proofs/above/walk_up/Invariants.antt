use Rattle.std.proofs.Common.{◌≡◌, ℕ, true, length, vec_len}
use Rattle.std.specs.Prelude.{Contains}
use Rattle.hierarchy.specs.Shapes.{IsOf}
use Rattle.call_targets.specs.Marks.{left}
use Rattle.call_graph.specs.Above.{AllFrom}
use Rattle.call_targets.specs.Walking.{is_met, is_marked, IsWalking}
use Rattle.call_targets.proofs.above.walk_up.Given as goal

abbrev pub invariant-loop-one : goal.invariant-loop-one
invariant-loop-one l = record {
  size : vec_len l.marks.marks ≡ vec_len l.fn.marks.marks;
  met : (n : ℕ) → is_met l.fn.marks n ≡ true → is_met l.marks n ≡ true;
  from : IsOf l.at.program.now l.at.hierarchy.now → vec_len l.fn.marks.marks ≡ length l.at.program.now.types → (x y : ℕ) → AllFrom l.at.program.now x y l.fn.marks.waiting.items → AllFrom l.at.program.now x y l.marks.waiting.items × AllFrom l.at.program.now x y l.out.items;
  walking : IsOf l.at.program.now l.at.hierarchy.now → ((n : ℕ) → is_marked l.fn.marks n ≡ true → Contains l.fn.marks.waiting.items n) → IsWalking l.at.program.now l.marks l.out.items;
}

abbrev pub decreases-loop-one : goal.decreases-loop-one
decreases-loop-one l = left l.marks
