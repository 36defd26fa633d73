use Rattle.std.proofs.Common.{◌≡◌, take}
use Rattle.std.specs.List.{flat_map}
use Rattle.stub_library.specs.Loosening.{loose_numbers}
use Rattle.stub_library.proofs.loose.loose_numbers.Given as goal

abbrev pub invariant-loop-class : goal.invariant-loop-class
invariant-loop-class l = l.numbers.items ≡ flat_map (loose_numbers l.program l.hierarchy l.kept l.called) (take l.class-index l.classes)
