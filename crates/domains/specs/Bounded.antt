-- Ranks of values have a bound.
use Rattle.std.specs.Prelude.{ℕ, ◌+◌, ◌-◌, ◌<◌, ◌≤◌, Bool, true, false, if◌then◌else◌, List, length, Option, Some, None}
use Rattle.std.specs.Ordering.{int_eq}
use Rattle.std.proofs.Common.{arith}
use Rattle.domains.specs.declared.numbers.Word.{Word}
use Rattle.domains.specs.declared.numbers.Word.TheVariants.{Bottom, Known, KnownWide, Any}
use Rattle.domains.specs.declared.nulls.Nullness.{Nullness}
use Rattle.domains.specs.declared.nulls.Nullness.TheVariants.{Bottom as NoNull, Null, NotNull, Any as AnyNull}
use Rattle.domains.specs.Words.{word_rank}
use Rattle.domains.specs.Nulls.{null_rank}
use Rattle.domains.specs.Ranges.{Bounds, is_empty, first_word, last_word, low_rank, high_rank, range_rank}
use Rattle.domains.specs.ClassSets.{set_rank}
use Rattle.domains.specs.Values.{Parts, value_rank}

word_few : (w : Word) → word_rank w ≤ 2
word_few Bottom = omega arith
word_few (Known n) = omega arith
word_few (KnownWide n) = omega arith
word_few Any = omega arith

null_few : (n : Nullness) → null_rank n ≤ 2
null_few NoNull = omega arith
null_few Null = omega arith
null_few NotNull = omega arith
null_few AnyNull = omega arith

range_few : (r : Bounds) → range_rank r ≤ 3
range_few r = by (is_empty r) (int_eq r.low first_word) (int_eq r.high last_word)
  where
    by : (e l h : Bool) → (if e then 3 else (if l then 0 else 1) + (if h then 0 else 1)) ≤ 3
    by true l h = omega arith
    by false true true = omega arith
    by false true false = omega arith
    by false false true = omega arith
    by false false false = omega arith

set_few : (s : Option (List ℕ)) → set_rank s ≤ 9
set_few None = omega arith
set_few (Some xs) = omega arith

pub rank_below : (v : Parts) → value_rank v < 20
rank_below v = omega (arith, word_few v.word, range_few v.interval, null_few v.nullness, set_few v.classes)
