use Rattle.std.proofs.Common.{◌≡◌, ◌++◌, take}
use Rattle.stub_library.specs.Marking.{kept_among}
use Rattle.stub_library.proofs.entered.add_kept.Given as goal

abbrev pub invariant-loop-method : goal.invariant-loop-method
invariant-loop-method l = l.out.items ≡ l.initial.out.items ++ kept_among l.program l.kept (take l.method-index l.methods)
