use Rattle.std.proofs.Common.{take}
use Rattle.std.specs.List.{flat_map}
use Rattle.hierarchy.specs.Shapes.{IsOf}
use Rattle.call_graph.specs.Objects.{IsReady}
use Rattle.call_targets.specs.Adding.{Adds}
use Rattle.call_targets.specs.Noting.{method_notes}
use Rattle.call_targets.proofs.entered.enter_methods.Given as goal

abbrev pub invariant-loop-method : goal.invariant-loop-method
invariant-loop-method l = record {
  ready : IsReady l.at.program.now l.fn.walk → IsReady l.at.program.now l.walk;
  adds : IsOf l.at.program.now l.at.hierarchy.now → IsReady l.at.program.now l.fn.walk → Adds (flat_map (method_notes l.at.program.now l.kept l.made.class l.made.outer) (take l.method-index l.methods)) l.fn.targets l.targets;
}
