use Rattle.std.proofs.Common.{◌≡◌}
use Rattle.stub_library.specs.Marking.{up_to, pairs_at}
use Rattle.stub_library.proofs.others.pairs.Given as goal

abbrev pub invariant-loop-place : goal.invariant-loop-place
invariant-loop-place l = l.out.items ≡ up_to (pairs_at l.program l.kept l.left) l.place
