use Rattle.std.proofs.Common.{◌≡◌, take}
use Rattle.std.specs.List.{flat_map}
use Rattle.stub_library.specs.Calling.{keys_of_class}
use Rattle.stub_library.proofs.called.called_keys.Given as goal

abbrev pub invariant-loop-class : goal.invariant-loop-class
invariant-loop-class l = l.keys.items ≡ flat_map (keys_of_class l.program l.hierarchy) (take l.class-index l.classes)
