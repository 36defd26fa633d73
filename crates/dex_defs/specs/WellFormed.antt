-- Programs that a file can spell, with their class graph.
use Rattle.std.specs.Prelude.{◌≡◌, ℕ, true}
use Rattle.program_model.specs.declared.program.Program.{Program}
use Rattle.program_model.specs.ProgramRules.{is_well_formed}
use Rattle.dex_defs.specs.ClassGraph.{IsTwice, IsAncestor, IsSplit}

pub record WellFormed (p : Program) : Type 0 where
  pub fits : is_well_formed p ≡ true
  pub once : (class : ℕ) → IsTwice p class → ⊥
  pub acyclic : (class : ℕ) → IsAncestor p class class → ⊥
  pub whole : (class method : ℕ) → IsSplit p class method → ⊥
