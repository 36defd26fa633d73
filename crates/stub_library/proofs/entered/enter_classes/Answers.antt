use Rattle.std.proofs.Common.{false, refl}
use Rattle.stub_library.specs.Marking.{entered_at}
use Rattle.stub_library.proofs.Steps.{up_taken}
use Rattle.stub_library.proofs.entered.enter_classes.Goals as goal

pub loop-place-preserved : goal.loop-place-preserved
loop-place-preserved c = up_taken false (entered_at c.args.program.now c.args.kept.now c.args.above.now.numbers.items) c.args.marks.now c.loop-place.marks c.enter_class.new.marks c.loop-place.place c.loop-place.place refl c.loop-place.invariant c.in_ok-enter_class.ensures
