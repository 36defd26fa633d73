use Rattle.call_graph.proofs.Growth.{goes_then, grows_then, reaches_at, reaches_all}
use Rattle.std.proofs.Common.{subst}
use Rattle.std.proofs.lemmas.List.{take_all}
use Rattle.call_graph.specs.Least.{WaitsAmong}
use Rattle.call_graph.proofs.Reaching.{waits_at}
use Rattle.call_graph.proofs.facts.Facts.add_all.Goals as goal

pub loop-fact-preserved : goal.loop-fact-preserved
loop-fact-preserved c = record {
  grows = grows_then c.args.self.now c.loop-fact.self c.add.new.self c.loop-fact.invariant.grows c.in_ok-add.ensures.grows;
  goes = goes_then c.args.self.now c.loop-fact.self c.add.new.self c.loop-fact.invariant.goes c.in_ok-add.ensures.goes;
  known = reaches_at c.loop-fact.self c.add.new.self c.args.facts.now c.loop-fact.fact-index _ c.in_ok-add.ensures.goes c.loop-fact.invariant.known c.loop-fact-test.true c.in_ok-add.ensures.known;
  from = waits_at c.args.self.now c.loop-fact.self c.add.new.self c.args.facts.now c.loop-fact.fact-index _ c.loop-fact-test.true c.loop-fact.invariant.from c.in_ok-add.ensures.from;
}

pub returns-clause-known : goal.returns-clause-known
returns-clause-known c = reaches_all c.loop-fact.self c.args.facts.now c.loop-fact.fact-index c.loop-fact-test.false c.loop-fact.invariant.known

pub returns-clause-from : goal.returns-clause-from
returns-clause-from c = subst (λ xs. WaitsAmong c.args.self.now c.loop-fact.self xs) (take_all c.loop-fact.fact-index c.args.facts.now c.loop-fact-test.false) c.loop-fact.invariant.from
