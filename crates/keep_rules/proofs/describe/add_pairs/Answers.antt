use Rattle.keep_rules.proofs.FitLemmas.{read_same}
use Rattle.keep_rules.proofs.DescribedLemmas.{pairs_more, pairs_end}
use Rattle.keep_rules.proofs.describe.add_pairs.Goals as goal

pub loop-kind-preserved : goal.loop-kind-preserved
loop-kind-preserved c = λ n k. pairs_more c.args.kinds.now c.loop-kind.kind-index _ c.args.owner n k c.args.pairs.now.items c.loop-kind.pairs.items _ c.loop-kind-test.true (read_same c.args.kinds.now c.loop-kind.kind-index 0 c.loop-kind-test.true) (c.loop-kind.invariant n k) c.in_ok-push.ensures.items

pub returns : goal.returns
returns c = λ n k. pairs_end c.args.kinds.now c.loop-kind.kind-index c.args.owner n k c.args.pairs.now.items c.loop-kind.pairs.items c.loop-kind-test.false (c.loop-kind.invariant n k)
