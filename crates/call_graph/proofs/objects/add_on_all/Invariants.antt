use Rattle.std.proofs.Common.{◌≡◌, ◌++◌, take}
use Rattle.std.specs.List.{flat_map}
use Rattle.hierarchy.specs.Shapes.{IsResolved}
use Rattle.call_graph.specs.Stays.{Stays}
use Rattle.call_graph.specs.Objects.{IsReady, answer_facts}
use Rattle.call_graph.proofs.objects.add_on_all.Given as goal

abbrev pub invariant-loop-class : goal.invariant-loop-class
invariant-loop-class l = record {
  stays : Stays l.fn.out.items l.out.items;
  ready : IsReady l.at.program.now l.fn.walk → IsReady l.at.program.now l.walk;
  adds : IsResolved l.at.program.now l.at.hierarchy.now → IsReady l.at.program.now l.fn.walk → l.out.items ≡ l.fn.out.items ++ flat_map (answer_facts l.at.program.now l.number) (take l.class-index l.classes);
}
