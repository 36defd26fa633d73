use Rattle.std.proofs.Common.{◌≡◌, ◌+◌, ◌++◌, length}
use Rattle.program_model.specs.declared.program.Program.{Program}
use Rattle.class_defs.specs.Finding.{beside}
use Rattle.hierarchy.specs.Shapes.{IsOf}
use Rattle.hierarchy.specs.Tables.{read_at, row_of}
use Rattle.hierarchy.specs.Walking.{waits, IsFair, IsUnseen}
use Rattle.hierarchy.proofs.Deep.{weight}
use Rattle.hierarchy.proofs.Lowest.{Seeing}
use Rattle.hierarchy.proofs.build.Hierarchy.see_waiting.Given as goal

abbrev pub invariant-loop-one : goal.invariant-loop-one
invariant-loop-one l = record {
  fair : IsFair l.fn.walk → IsFair l.walk;
  size : length l.walk.seen.items ≡ length l.fn.walk.seen.items;
  going : (p : Program) (is : IsOf p l.self) → IsUnseen (length p.classes) l.fn.walk → Seeing p is.ranked (waits l.fn.walk) l.walk.seen.items (waits l.walk);
}

abbrev pub decreases-loop-one : goal.decreases-loop-one
decreases-loop-one l = weight (λ c. length (row_of l.self.shape.lists.rows c ++ beside (read_at l.self.shape.supers.items c))) 0 l.walk.seen.items + length (waits l.walk)
