use Rattle.std.proofs.Common.{◌≡◌, ◌++◌, take}
use Rattle.stub_library.specs.Marking.{pairs_by}
use Rattle.stub_library.proofs.others.add_pairs.Given as goal

abbrev pub invariant-loop-class : goal.invariant-loop-class
invariant-loop-class l = l.out.items ≡ l.initial.out.items ++ pairs_by l.program l.left (take l.class-index l.classes) l.other
