use Rattle.std.proofs.Common.{ℕ, take}
use Rattle.std.specs.Prelude.{Contains}
use Rattle.hierarchy.specs.Shapes.{IsResolved}
use Rattle.call_graph.specs.Stays.{Stays}
use Rattle.call_graph.specs.Least.{AddsOnly, AreCommon, FoundCommon}
use Rattle.call_graph.specs.Objects.{FindsOpen}
use Rattle.call_graph.proofs.objects.add_common.Given as goal

abbrev pub invariant-loop-key : goal.invariant-loop-key
invariant-loop-key l = record {
  stays : Stays l.fn.out.items l.out.items;
  common : IsResolved l.at.program.now l.at.hierarchy.now → (key : ℕ) → Contains (take l.key-index l.keys) key → FindsOpen l.at.program.now l.at.hierarchy.now l.shut l.class key l.out.items;
  only : IsResolved l.at.program.now l.at.hierarchy.now → AreCommon l.at.program.now l.at.hierarchy.now l.keys → AddsOnly (FoundCommon l.at.program.now l.shut l.class) l.fn.out.items l.out.items;
}
