use Rattle.std.proofs.Common.{arith}
use Rattle.pipeline.proofs.RoundLemmas.{further, ended}
use Rattle.pipeline.proofs.rounds.all_rounds.Goals as goal

pub rounds-init : goal.rounds-init
rounds-init c = record {
  count = c.in_ok-left.ensures.count;
  settled = c.in_ok-left.ensures.settled;
  rounding = c.in_ok-left.ensures.run;
}

pub rounds-preserved : goal.rounds-preserved
rounds-preserved c = record {
  count = omega arith;
  settled = c.in_ok-next.ensures.settled;
  rounding = further c.args.outside.now c.args.admitted.now.methods.items c.args.first c.rounds.left c.in_ok-next.next c.rounds.rounds c.in_ok-next.more c.saturating_add-rounds.result (omega arith) c.rounds.invariant.rounding
      c.in_ok-next.ensures.run (omega arith);
}

pub returns-clause-run : goal.returns-clause-run
returns-clause-run c = ended c.args.outside.now c.args.admitted.now.methods.items c.args.first c.rounds.left c.rounds.rounds c.rounds.invariant.rounding (c.rounds.invariant.settled (omega arith))
