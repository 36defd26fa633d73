use Rattle.std.proofs.Common.{◌≡◌, ℕ, true, take}
use Rattle.std.specs.Prelude.{Contains}
use Rattle.hierarchy.specs.Shapes.{IsResolved}
use Rattle.call_graph.specs.Stays.{Stays}
use Rattle.program_model.specs.ProgramRules.{is_well_formed}
use Rattle.call_graph.specs.Least.{AddsOnly, InheritedAmong}
use Rattle.call_graph.specs.Objects.{InheritsOf}
use Rattle.call_graph.proofs.objects.add_all_inherited.Given as goal

abbrev pub invariant-loop-kind : goal.invariant-loop-kind
invariant-loop-kind l = record {
  stays : Stays l.fn.out.items l.out.items;
  inherits : IsResolved l.at.program.now l.at.hierarchy.now → (kind : ℕ) → Contains (take l.kind-index l.kinds) kind → InheritsOf l.at.program.now l.shut l.class kind l.out.items;
  only : IsResolved l.at.program.now l.at.hierarchy.now → is_well_formed l.at.program.now ≡ true → AddsOnly (InheritedAmong l.at.program.now l.shut l.class l.kinds) l.fn.out.items l.out.items;
}
