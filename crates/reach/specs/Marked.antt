-- Marks by which may be removed.
use Rattle.std.specs.Prelude.{◌≡◌, ℕ, true}
use Rattle.program_model.specs.declared.program.Program.{Program}
use Rattle.program_model.specs.declared.pass.Outside.{Outside}
use Rattle.program_model.specs.ProgramRules.{is_well_formed}
use Rattle.class_defs.specs.ClassGraph.{IsTwice, IsAncestor}
use Rattle.call_graph.specs.declared.live_set.LiveSet.{LiveSet}
use Rattle.call_graph.specs.Facts.{Fits}
use Rattle.call_graph.specs.Closed.{IsClosedSet}

-- A well-formed program, of which no class is defined twice or is its own ancestor, and marks on its numbers that are closed under
-- what follows.
pub record IsMarked (p : Program) (o : Outside) (s : LiveSet) : Type 0 where
  pub formed : is_well_formed p ≡ true
  pub once : (class : ℕ) → IsTwice p class → ⊥
  pub grounded : (class : ℕ) → IsAncestor p class class → ⊥
  pub sized : Fits p s
  pub closed : IsClosedSet p o s
