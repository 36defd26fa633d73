use Rattle.std.proofs.Common.{get_or}
use Rattle.keep_rules.proofs.EntryLemmas.{same_got, pairs_more, pairs_end}
use Rattle.keep_rules.proofs.outside.conditional.Goals as goal

pub loop-class-preserved : goal.loop-class-preserved
loop-class-preserved c = record {
  classes = c.in_ok-add_pair.ensures.classes c.loop-class.invariant.classes;
  owners = c.in_ok-add_pair.ensures.owners c.loop-class.invariant.owners;
  pairs = λ n k h l. let q = get_or c.args.pairs.now c.loop-class.class-index (0, 0) in pairs_more c.args.size c.args.pairs.now c.loop-class.class-index q c.loop-class.out _ n k c.loop-class-test.true (same_got c.args.pairs.now c.loop-class.class-index (0, 0) q c.loop-class-test.true) h l c.in_ok-add_pair.ensures (c.loop-class.invariant.pairs n k h l);
}

pub returns-clause-pairs : goal.returns-clause-pairs
returns-clause-pairs c = λ n k h l. pairs_end c.args.pairs.now c.loop-class.class-index c.loop-class.out n k c.loop-class-test.false (c.loop-class.invariant.pairs n k h l)
