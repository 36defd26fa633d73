use Rattle.std.proofs.Common.{◌≡◌, take}
use Rattle.stub_library.specs.Marking.{set_all}
use Rattle.stub_library.proofs.marks.turn_all.Given as goal

abbrev pub invariant-loop-number : goal.invariant-loop-number
invariant-loop-number l = l.marks ≡ set_all l.on l.initial.marks (take l.number-index l.numbers)
