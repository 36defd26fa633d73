use Rattle.std.proofs.Common.{◌≡◌, ◌+◌, ◌++◌, ℕ, [], length}
use Rattle.std.specs.Prelude.{cond, slice_get}
use Rattle.class_defs.specs.Members.{is_interface}
use Rattle.class_defs.specs.Finding.{without_repeats, candidates_from}
use Rattle.hierarchy.specs.Naming.{IsKey}
use Rattle.hierarchy.specs.Shapes.{IsOf}
use Rattle.hierarchy.specs.Tables.{row_of}
use Rattle.hierarchy.specs.Walking.{waits, IsFair, IsUnseen}
use Rattle.hierarchy.proofs.Deep.{weight}
use Rattle.hierarchy.proofs.Collected.{Collecting}
use Rattle.hierarchy.proofs.build.Hierarchy.collect.Given as goal

abbrev pub invariant-loop-one : goal.invariant-loop-one
invariant-loop-one l = record {
  fair : IsFair l.fn.walk → IsFair l.walk;
  size : length l.walk.seen.items ≡ length l.fn.walk.seen.items;
  going : (name proto : ℕ) (is : IsOf l.program l.self) → IsKey l.program l.self l.key name proto → IsUnseen (length l.program.classes) l.fn.walk
      → Collecting l.program name proto is.ranked (waits l.fn.walk) l.walk.seen.items (waits l.walk) l.out.items (l.fn.out.items ++ without_repeats (candidates_from (length l.program.classes) l.program name proto (waits l.fn.walk)));
}

abbrev pub decreases-loop-one : goal.decreases-loop-one
decreases-loop-one l = weight (λ c. length (cond (is_interface (slice_get l.program.classes c)) (row_of l.self.shape.lists.rows c) [] ++ [])) 0 l.walk.seen.items + length (waits l.walk)
