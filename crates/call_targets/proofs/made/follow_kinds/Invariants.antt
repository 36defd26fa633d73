use Rattle.std.proofs.Common.{take}
use Rattle.std.specs.List.{flat_map}
use Rattle.hierarchy.specs.Shapes.{IsOf}
use Rattle.call_graph.specs.Objects.{IsReady}
use Rattle.call_targets.specs.Adding.{Adds}
use Rattle.call_targets.specs.Noting.{kind_notes}
use Rattle.call_targets.proofs.made.follow_kinds.Given as goal

abbrev pub invariant-loop-kind : goal.invariant-loop-kind
invariant-loop-kind l = record {
  ready : IsReady l.at.program.now l.fn.walk → IsReady l.at.program.now l.walk;
  adds : IsOf l.at.program.now l.at.hierarchy.now → IsReady l.at.program.now l.fn.walk → Adds (flat_map (kind_notes l.at.program.now l.tables.named l.tables.kept l.made.class l.made.outer) (take l.kind-index l.kinds)) l.fn.targets l.targets;
}
