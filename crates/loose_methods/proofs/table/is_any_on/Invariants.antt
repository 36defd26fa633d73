use Rattle.std.proofs.Common.{◌≡◌, false, take}
use Rattle.std.specs.List.{list_any}
use Rattle.loose_methods.specs.Marking.{is_on}
use Rattle.loose_methods.proofs.table.is_any_on.Given as goal

abbrev pub invariant-loop-number : goal.invariant-loop-number
invariant-loop-number l = list_any (is_on l.marks) (take l.number-index l.numbers) ≡ false
