use Rattle.std.proofs.Common.{◌≡◌}
use Rattle.stub_library.specs.Marking.{up_to, opened_at}
use Rattle.stub_library.proofs.entered.opened.Given as goal

abbrev pub invariant-loop-place : goal.invariant-loop-place
invariant-loop-place l = l.out.items ≡ up_to (opened_at l.program l.here) l.place
