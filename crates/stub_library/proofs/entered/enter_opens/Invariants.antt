use Rattle.std.proofs.Common.{◌≡◌, false}
use Rattle.stub_library.specs.Marking.{set_all, up_to, found_open}
use Rattle.stub_library.proofs.entered.enter_opens.Given as goal

abbrev pub invariant-loop-place : goal.invariant-loop-place
invariant-loop-place l = l.marks ≡ set_all false l.initial.marks (up_to (found_open l.program l.opens) l.place)
