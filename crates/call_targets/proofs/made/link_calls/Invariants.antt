use Rattle.std.proofs.Common.{take}
use Rattle.std.specs.List.{flat_map}
use Rattle.hierarchy.specs.Shapes.{IsOf}
use Rattle.call_graph.specs.Objects.{IsReady}
use Rattle.call_targets.specs.Adding.{Adds}
use Rattle.call_targets.specs.Noting.{call_notes}
use Rattle.call_targets.proofs.made.link_calls.Given as goal

abbrev pub invariant-loop-call : goal.invariant-loop-call
invariant-loop-call l = record {
  ready : IsReady l.at.program.now l.fn.walk → IsReady l.at.program.now l.walk;
  adds : IsOf l.at.program.now l.at.hierarchy.now → IsReady l.at.program.now l.fn.walk → Adds (flat_map (call_notes l.at.program.now l.class) (take l.call-index l.calls)) l.fn.targets l.targets;
}
