use Rattle.std.proofs.Common.{◌≡◌, true}
use Rattle.program_model.specs.ProgramRules.{is_well_formed}
use Rattle.hierarchy.specs.Shapes.{IsResolved}
use Rattle.call_graph.specs.Facts.{Sized, weight}
use Rattle.call_graph.specs.Closed.{Follows}
use Rattle.call_graph.specs.Least.{AreCommon, AreKnownReached, AreReached}
use Rattle.call_graph.specs.Objects.{HasCommon, AreNotes}
use Rattle.call_graph.proofs.live_set.search.Given as goal

abbrev pub invariant-loop-fact : goal.invariant-loop-fact
invariant-loop-fact l = record {
  sized : Sized l.program l.facts;
  notes : IsResolved l.program l.hierarchy → is_well_formed l.program ≡ true → HasCommon l.program l.hierarchy l.tables.of_object.items → AreNotes l.program l.notes;
  follows : IsResolved l.program l.hierarchy → is_well_formed l.program ≡ true → HasCommon l.program l.hierarchy l.tables.of_object.items → Follows l.program l.outside l.tables l.notes l.facts;
  noted : IsResolved l.program l.hierarchy → is_well_formed l.program ≡ true → HasCommon l.program l.hierarchy l.tables.of_object.items → AreCommon l.program l.hierarchy l.tables.of_object.items → AreReached l.program l.outside l.tables l.notes;
  known : IsResolved l.program l.hierarchy → is_well_formed l.program ≡ true → HasCommon l.program l.hierarchy l.tables.of_object.items → AreCommon l.program l.hierarchy l.tables.of_object.items → AreKnownReached l.program l.outside l.tables l.facts;
}

abbrev pub decreases-loop-fact : goal.decreases-loop-fact
decreases-loop-fact l = weight l.facts
