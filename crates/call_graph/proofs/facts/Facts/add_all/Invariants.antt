use Rattle.std.proofs.Common.{take}
use Rattle.call_graph.specs.Facts.{Grows}
use Rattle.call_graph.specs.Closed.{Goes, Reaches}
use Rattle.call_graph.specs.Least.{WaitsAmong}
use Rattle.call_graph.proofs.facts.Facts.add_all.Given as goal

abbrev pub invariant-loop-fact : goal.invariant-loop-fact
invariant-loop-fact l = record {
  grows : Grows l.fn.self l.self;
  goes : Goes l.fn.self l.self;
  known : Reaches l.self (take l.fact-index l.facts);
  from : WaitsAmong l.fn.self l.self (take l.fact-index l.facts);
}
