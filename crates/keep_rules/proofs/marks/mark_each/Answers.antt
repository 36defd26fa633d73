use Rattle.keep_rules.specs.Table.{has}
use Rattle.keep_rules.proofs.FitLemmas.{read_same}
use Rattle.keep_rules.proofs.GrownLemmas.{left_start, each_more, each_end}
use Rattle.keep_rules.proofs.marks.mark_each.Goals as goal

pub loop-number-init : goal.loop-number-init
loop-number-init c = left_start (has c.args.numbers.now) c.args.marks.now.items

pub loop-number-preserved : goal.loop-number-preserved
loop-number-preserved c = each_more c.args.marks.now.items c.loop-number.marks.items _ c.args.numbers.now c.loop-number.number-index _ c.loop-number-test.true (read_same c.args.numbers.now c.loop-number.number-index 0 c.loop-number-test.true) c.loop-number.invariant c.mark.ensures

pub returns : goal.returns
returns c = each_end c.args.marks.now.items c.loop-number.marks.items c.args.numbers.now c.loop-number.number-index c.loop-number-test.false c.loop-number.invariant
