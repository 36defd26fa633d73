use Rattle.std.proofs.Common.{◌≡◌, ◌+◌, ◌++◌, ℕ, length}
use Rattle.program_model.specs.declared.program.Program.{Program}
use Rattle.class_defs.specs.Finding.{field_from, beside}
use Rattle.hierarchy.specs.Naming.{IsFieldKey}
use Rattle.hierarchy.specs.Shapes.{IsOf}
use Rattle.hierarchy.specs.Tables.{read_at, row_of}
use Rattle.hierarchy.specs.Walking.{waits, IsFair}
use Rattle.hierarchy.proofs.Deep.{weight}
use Rattle.hierarchy.proofs.Resolving.{FieldGoing}
use Rattle.hierarchy.proofs.resolve.field_from.Given as goal

abbrev pub invariant-loop-one : goal.invariant-loop-one
invariant-loop-one l = record {
  fair : IsFair l.fn.walk → IsFair l.walk;
  size : length l.walk.seen.items ≡ length l.fn.walk.seen.items;
  going : (p : Program) (name kind : ℕ) (is : IsOf p l.tables) → IsFieldKey p l.tables l.key name kind → IsFair l.fn.walk → length l.fn.walk.seen.items ≡ length p.classes
      → FieldGoing p is.ranked name kind l.walk.seen.items (waits l.walk) (field_from (length p.classes) p name kind l.class);
}

abbrev pub decreases-loop-one : goal.decreases-loop-one
decreases-loop-one l = weight (λ c. length (row_of l.tables.shape.lists.rows c ++ beside (read_at l.tables.shape.supers.items c))) 0 l.walk.seen.items + length (waits l.walk)
