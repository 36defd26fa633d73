-- The programs whose classes have no fault.
use Rattle.std.specs.Prelude.{ℕ}
use Rattle.program_model.specs.declared.program.Program.{Program}
use Rattle.class_defs.specs.ClassGraph.{IsTwice}
use Rattle.hierarchy.specs.Shapes.{IsAcyclic}
use Rattle.hierarchy.specs.Splitting.{NoSplit}

-- no class has the type of an earlier one, none is its own ancestor, and none has a virtual method that repeats a package-private
-- one of a superclass in another package
pub record IsAccepted (p : Program) : Type 0 where
  pub once : (class : ℕ) → IsTwice p class → ⊥
  pub acyclic : IsAcyclic p
  pub unsplit : NoSplit p
