use Rattle.std.proofs.Common.{◌≡◌, take}
use Rattle.loose_methods.specs.Marking.{turned_on}
use Rattle.loose_methods.proofs.table.turn_all.Given as goal

abbrev pub invariant-loop-number : goal.invariant-loop-number
invariant-loop-number l = l.marks ≡ turned_on l.initial.marks (take l.number-index l.numbers)
