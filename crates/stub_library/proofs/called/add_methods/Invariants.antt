use Rattle.std.proofs.Common.{◌≡◌, ◌++◌, take}
use Rattle.std.specs.List.{flat_map}
use Rattle.stub_library.specs.Calling.{keys_of_method}
use Rattle.stub_library.proofs.called.add_methods.Given as goal

abbrev pub invariant-loop-method : goal.invariant-loop-method
invariant-loop-method l = l.out.items ≡ l.initial.out.items ++ flat_map (keys_of_method l.program l.hierarchy) (take l.method-index l.methods)
