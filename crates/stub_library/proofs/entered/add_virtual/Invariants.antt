use Rattle.std.proofs.Common.{◌≡◌, ◌++◌, take}
use Rattle.stub_library.specs.Marking.{virtual_among}
use Rattle.stub_library.proofs.entered.add_virtual.Given as goal

abbrev pub invariant-loop-method : goal.invariant-loop-method
invariant-loop-method l = l.out.items ≡ l.initial.out.items ++ virtual_among l.program (take l.method-index l.methods)
