use Rattle.loose_methods.proofs.Marks.{turned_more}
use Rattle.loose_methods.proofs.table.turn_all.Goals as goal

pub loop-number-preserved : goal.loop-number-preserved
loop-number-preserved c = turned_more c.args.marks.now c.loop-number.marks c.turn.new.marks c.args.numbers.now c.loop-number.number-index 0 c.loop-number-test.true c.loop-number.invariant c.turn.ensures
