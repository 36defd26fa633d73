use Rattle.std.proofs.Common.{◌≡◌}
use Rattle.stub_library.specs.Marking.{rounds}
use Rattle.stub_library.proofs.others.rounds.Given as goal

abbrev pub invariant-loop-done : goal.invariant-loop-done
invariant-loop-done l = l.marks.items ≡ rounds l.base l.pairs l.done
