use Rattle.std.proofs.Common.{take}
use Rattle.hierarchy.specs.Shapes.{IsResolved}
use Rattle.call_graph.specs.Stays.{Stays}
use Rattle.std.specs.Prelude.{Contains}
use Rattle.program_model.specs.declared.program.Method.{Method}
use Rattle.call_graph.specs.Least.{AddsOnly, InheritedFrom, IsNamed}
use Rattle.call_graph.specs.Objects.{Inherits}
use Rattle.call_graph.proofs.objects.add_inherited_all.Given as goal

abbrev pub invariant-loop-method : goal.invariant-loop-method
invariant-loop-method l = record {
  stays : Stays l.fn.out.items l.out.items;
  inherits : IsResolved l.at.program.now l.at.hierarchy.now → Inherits l.at.program.now l.shut l.class l.above (take l.method-index l.methods) l.out.items;
  only : IsResolved l.at.program.now l.at.hierarchy.now → ((m : Method) → Contains l.methods m → IsNamed l.at.program.now m) → AddsOnly (InheritedFrom l.at.program.now l.shut l.class l.above l.methods) l.fn.out.items l.out.items;
}
