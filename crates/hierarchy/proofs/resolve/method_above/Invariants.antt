use Rattle.std.proofs.Common.{◌≡◌, ◌-◌, ℕ, [], Some, length}
use Rattle.program_model.specs.declared.program.Program.{Program}
use Rattle.class_defs.specs.Places.{super_place, chain_from, chain_of}
use Rattle.class_defs.specs.Finding.{first_among}
use Rattle.hierarchy.specs.Naming.{IsKey}
use Rattle.hierarchy.specs.Shapes.{IsOf}
use Rattle.hierarchy.specs.Walking.{waits, IsFair, IsClear, IsSpent, in_interfaces, in_lists}
use Rattle.hierarchy.proofs.resolve.method_above.Given as goal

abbrev pub invariant-loop-done : goal.invariant-loop-done
invariant-loop-done l = record {
  fair : IsFair l.fn.walk → IsFair l.walk;
  size : length l.walk.seen.items ≡ length l.fn.walk.seen.items;
  going : (p : Program) (name proto : ℕ) → IsOf p l.tables → IsKey p l.tables l.key name proto → IsClear (length p.classes) l.fn.walk
      → (waits l.walk ≡ []) × (IsSpent (in_interfaces p name proto) (length p.classes) l.walk.seen.items) × (first_among (in_lists p name proto) (chain_from (super_place p) (length p.classes - l.done) l.at) ≡ first_among (in_lists p name proto) (chain_of p (Some l.class)));
}
