use Rattle.std.proofs.Common.{◌≡◌, ◌++◌, take}
use Rattle.stub_library.specs.Marking.{pairs_among}
use Rattle.stub_library.proofs.others.add_all.Given as goal

abbrev pub invariant-loop-method : goal.invariant-loop-method
invariant-loop-method l = l.out.items ≡ l.initial.out.items ++ pairs_among l.program l.kept l.left l.classes (take l.method-index l.methods)
