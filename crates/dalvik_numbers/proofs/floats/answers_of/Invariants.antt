use Rattle.std.proofs.Common.{◌≡◌, ◌≤◌, length, drop}
use Rattle.std.specs.HashMap.{get}
use Rattle.dalvik_numbers.specs.Rows.{Key, answer_in, key_eq}
use Rattle.dalvik_numbers.proofs.floats.answers_of.Given as goal

abbrev pub invariant-loop-at : goal.invariant-loop-at
invariant-loop-at l = record {
  inside : l.at ≤ length l.rows;
  answered : (k : Key) → get key_eq l.answers k ≡ answer_in (drop l.at l.rows) k;
}

abbrev pub decreases-loop-at : goal.decreases-loop-at
decreases-loop-at l = l.at
