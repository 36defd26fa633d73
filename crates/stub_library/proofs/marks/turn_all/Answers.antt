use Rattle.stub_library.proofs.Steps.{set_taken}
use Rattle.stub_library.proofs.marks.turn_all.Goals as goal

pub loop-number-preserved : goal.loop-number-preserved
loop-number-preserved c = set_taken c.args.on c.args.marks.now c.loop-number.marks c.turn.new.marks c.args.numbers.now c.loop-number.number-index 0 c.loop-number-test.true c.loop-number.invariant c.turn.ensures
