use Rattle.std.proofs.Common.{◌≡◌, ◌++◌, take}
use Rattle.stub_library.specs.Loosening.{loose_among}
use Rattle.stub_library.proofs.loose.add_loose.Given as goal

abbrev pub invariant-loop-method : goal.invariant-loop-method
invariant-loop-method l = l.out.items ≡ l.initial.out.items ++ loose_among l.program l.hierarchy l.kept l.called l.class (take l.method-index l.methods)
