use Rattle.std.proofs.Common.{◌≡◌}
use Rattle.keep_rules.specs.Marks.{numbers_of}
use Rattle.keep_rules.proofs.marks.numbers.Given as goal

abbrev pub invariant-loop-number : goal.invariant-loop-number
invariant-loop-number l = l.numbers ≡ numbers_of l.marks l.number
