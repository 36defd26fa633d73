use Rattle.std.proofs.Common.{false, refl}
use Rattle.stub_library.specs.Marking.{found_open}
use Rattle.stub_library.proofs.Steps.{up_taken}
use Rattle.stub_library.proofs.entered.enter_opens.Goals as goal

pub loop-place-preserved : goal.loop-place-preserved
loop-place-preserved c = up_taken false (found_open c.args.program.now c.args.opens.now) c.args.marks.now c.loop-place.marks c.enter_open.new.marks c.loop-place.place c.loop-place.place refl c.loop-place.invariant c.in_ok-enter_open.ensures
