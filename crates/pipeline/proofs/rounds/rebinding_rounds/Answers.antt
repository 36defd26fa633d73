use Rattle.std.proofs.Common.{arith}
use Rattle.pipeline.proofs.RoundLemmas.{further, less_to_rebind}
use Rattle.pipeline.proofs.rounds.rebinding_rounds.Goals as goal

pub rounds-init : goal.rounds-init
rounds-init c = record {
  count = c.in_ok-left.ensures.count;
  settled = c.in_ok-left.ensures.settled;
  rounding = c.in_ok-left.ensures.run;
  less = c.in_ok-left.ensures.less;
  plainer = c.in_ok-left.ensures.plainer;
}

pub rounds-preserved : goal.rounds-preserved
rounds-preserved c = record {
  count = omega arith;
  settled = c.in_ok-next.ensures.settled;
  rounding = further c.args.outside.now c.args.admitted.now.methods.items c.args.traced c.rounds.left c.in_ok-next.next c.rounds.rounds c.in_ok-next.more c.saturating_add-rounds.result (omega arith) c.rounds.invariant.rounding
      c.in_ok-next.ensures.run (omega arith);
  less = omega (arith, c.in_ok-next.ensures.less, c.rounds.invariant.less);
  plainer = λ none. omega (arith, c.in_ok-next.ensures.plainer none, c.rounds.invariant.plainer (omega arith));
}

pub rounds-smaller : goal.rounds-smaller
rounds-smaller c = less_to_rebind c.rounds.left c.in_ok-next.next (omega arith) (omega arith) c.in_ok-next.ensures.nearer
