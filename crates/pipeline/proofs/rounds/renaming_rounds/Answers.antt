use Rattle.std.proofs.Common.{arith}
use Rattle.pipeline.proofs.RoundLemmas.{begun, further, less_to_rename}
use Rattle.pipeline.proofs.rounds.renaming_rounds.Goals as goal

pub rounds-init : goal.rounds-init
rounds-init c = record {
  count = omega arith;
  rounding = begun c.args.outside.now c.args.admitted.now.methods.items c.args.traced c.in_ok-left.left c.in_ok-left.ensures;
  less = c.in_ok-left.ensures.passed.falls.less;
  plainer = c.in_ok-left.ensures.passed.falls.plainer;
  nearer = c.in_ok-left.ensures.passed.falls.nearer;
  fewer = c.in_ok-left.ensures.passed.falls.fewer;
}

pub rounds-preserved : goal.rounds-preserved
rounds-preserved c = record {
  count = omega arith;
  rounding = further c.args.outside.now c.args.admitted.now.methods.items c.args.traced c.rounds.left c.in_ok-left-2.left c.rounds.rounds 1 c.saturating_add-rounds.result (omega arith) c.rounds.invariant.rounding
      (begun c.args.outside.now c.args.admitted.now.methods.items c.rounds.left.traced c.in_ok-left-2.left c.in_ok-left-2.ensures) (omega arith);
  less = omega (arith, c.in_ok-left-2.ensures.passed.falls.less, c.rounds.invariant.less);
  plainer = λ none. omega (arith, c.in_ok-left-2.ensures.passed.falls.plainer none, c.rounds.invariant.plainer (omega arith));
  nearer = λ none all. omega (arith, c.in_ok-left-2.ensures.passed.falls.nearer none all, c.rounds.invariant.nearer (omega arith) (omega arith));
  fewer = λ none all each. omega (arith, c.in_ok-left-2.ensures.passed.falls.fewer none all each, c.rounds.invariant.fewer (omega arith) (omega arith) (omega arith));
}

pub rounds-smaller : goal.rounds-smaller
rounds-smaller c = less_to_rename c.args.outside.now c.args.admitted.now.methods.items c.rounds.left c.in_ok-left-2.left c.in_ok-left-2.ensures (omega arith) (omega arith)
