use Rattle.std.proofs.Common.{ℕ, take}
use Rattle.std.specs.Prelude.{Contains}
use Rattle.hierarchy.specs.Shapes.{IsResolved}
use Rattle.program_model.specs.declared.pass.Outside.{Outside}
use Rattle.call_graph.specs.declared.tables.Tables.{Tables}
use Rattle.call_graph.specs.Least.{AllReached, AreReached, BothReached, IsMadeUnder}
use Rattle.call_graph.specs.Objects.{AreNotes, NotesUnder}
use Rattle.call_graph.proofs.objects.add_under_all.Given as goal

abbrev pub invariant-loop-kind : goal.invariant-loop-kind
invariant-loop-kind l = record {
  notes : IsResolved l.at.program.now l.at.hierarchy.now → AreNotes l.at.program.now l.fn.notes → NotesUnder l.at.program.now l.fn.notes l.notes l.class (take l.kind-index l.kinds) l.fn.out.items l.out.items;
  reached : (o : Outside) (t : Tables) → IsResolved l.at.program.now l.at.hierarchy.now → AreNotes l.at.program.now l.fn.notes → ((u : ℕ) → Contains l.kinds u → IsMadeUnder l.at.program.now o t l.class u)
      → AreReached l.at.program.now o t l.fn.notes → AllReached l.at.program.now o t l.fn.out.items → BothReached l.at.program.now o t l.notes l.out.items;
}
