use Rattle.std.proofs.Common.{◌≡◌, ◌<◌, ◌^◌, length}
use Rattle.hierarchy.specs.Shapes.{IsOf}
use Rattle.call_graph.specs.Bases.{object_number}
use Rattle.call_targets.specs.Adding.{AddsBy}
use Rattle.call_targets.specs.Following.{IsOpen, OfPlaces}
use Rattle.call_targets.proofs.made.follow_made.Given as goal

abbrev pub invariant-loop-place : goal.invariant-loop-place
invariant-loop-place l = record {
  open_walks : IsOf l.at.program.now l.at.hierarchy.now → IsOpen l.at.program.now l.walks;
  adds : IsOf l.at.program.now l.at.hierarchy.now → length l.at.program.now.classes < 2 ^ 32 → l.tables.object ≡ object_number l.at.program.now → AddsBy (OfPlaces l.at.program.now l.tables l.made l.place) l.fn.targets l.targets;
}
