use Rattle.std.proofs.Common.{drop}
use Rattle.keep_rules.specs.Table.{has}
use Rattle.keep_rules.specs.Grown.{Left}
use Rattle.keep_rules.proofs.marks.mark_each.Given as goal

abbrev pub invariant-loop-number : goal.invariant-loop-number
invariant-loop-number l = Left (has (drop l.number-index l.numbers)) (has l.numbers) l.initial.marks.items l.marks.items
