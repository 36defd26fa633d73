use Rattle.keep_rules.proofs.FitLemmas.{read_same}
use Rattle.keep_rules.proofs.GrownLemmas.{left_start}
use Rattle.keep_rules.proofs.SilentLemmas.{named_in, numbers_more, numbers_end}
use Rattle.keep_rules.proofs.assume.silence_methods.Goals as goal

pub loop-number-init : goal.loop-number-init
loop-number-init c = λ k formed is. left_start (named_in c.args.program.now k c.args.numbers.now) c.args.silent.now.items

pub loop-number-preserved : goal.loop-number-preserved
loop-number-preserved c = λ k formed is. numbers_more c.args.program.now k c.args.numbers.now c.loop-number.number-index _ c.in_ok-named.named c.args.silent.now.items c.loop-number.silent.items _ c.loop-number-test.true (read_same c.args.numbers.now c.loop-number.number-index 0 c.loop-number-test.true)
    (c.in_ok-named.ensures k formed is) (c.loop-number.invariant k formed is) c.mark_where.ensures

pub returns : goal.returns
returns c = λ k formed is. numbers_end c.args.program.now k c.args.numbers.now c.loop-number.number-index c.args.silent.now.items c.loop-number.silent.items c.loop-number-test.false (c.loop-number.invariant k formed is)
