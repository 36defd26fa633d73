use Rattle.std.proofs.Common.{◌≡◌, ◌++◌, take}
use Rattle.stub_library.specs.Marking.{virtual_along}
use Rattle.stub_library.proofs.entered.add_along.Given as goal

abbrev pub invariant-loop-place : goal.invariant-loop-place
invariant-loop-place l = l.out.items ≡ l.initial.out.items ++ virtual_along l.program (take l.place-index l.places)
