use Rattle.std.proofs.Common.{◌≡◌, take}
use Rattle.std.specs.List.{flat_map}
use Rattle.stub_library.specs.Marking.{waiting}
use Rattle.stub_library.proofs.others.waiting_for.Given as goal

abbrev pub invariant-loop-pair : goal.invariant-loop-pair
invariant-loop-pair l = l.numbers.items ≡ flat_map (waiting l.marks) (take l.pair-index l.pairs)
