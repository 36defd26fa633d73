use Rattle.std.proofs.Common.{◌≡◌, ◌+◌, ◌++◌, ℕ, [], length}
use Rattle.program_model.specs.declared.program.Program.{Program}
use Rattle.class_defs.specs.Finding.{first_among}
use Rattle.hierarchy.specs.Naming.{IsKey}
use Rattle.hierarchy.specs.Shapes.{IsOf}
use Rattle.hierarchy.specs.Tables.{row_of}
use Rattle.hierarchy.specs.Walking.{waits, IsFair, IsSpent, in_interfaces}
use Rattle.hierarchy.proofs.Deep.{weight}
use Rattle.hierarchy.proofs.Resolving.{MethodGoing}
use Rattle.hierarchy.proofs.resolve.method_in_interfaces.Given as goal

abbrev pub invariant-loop-one : goal.invariant-loop-one
invariant-loop-one l = record {
  fair : IsFair l.fn.walk → IsFair l.walk;
  size : length l.walk.seen.items ≡ length l.fn.walk.seen.items;
  going : (p : Program) (name proto : ℕ) (is : IsOf p l.tables) → IsKey p l.tables l.key name proto → IsSpent (in_interfaces p name proto) (length p.classes) l.fn.walk.seen.items
      → MethodGoing p is.ranked name proto l.walk.seen.items (waits l.walk) (first_among (in_interfaces p name proto) (waits l.fn.walk));
}

abbrev pub decreases-loop-one : goal.decreases-loop-one
decreases-loop-one l = weight (λ c. length (row_of l.tables.shape.lists.rows c ++ [])) 0 l.walk.seen.items + length (waits l.walk)
