-- Faults of the class graph.
use Rattle.std.specs.Prelude.{ℕ, List}
use Rattle.dex_defs.specs.ClassFaults.{InGraph}
use Rattle.dex_defs.specs.Parts.{Fault}
use Rattle.dex_defs.specs.Spells.{Spells}
use Rattle.program_model.specs.declared.program.Program.{Program}

-- the fault is one of the class graph of the program that the bytes spell
pub record IsOfGraph (bytes : List ℕ) (fault : Fault) : Type 0 where
  pub program : Program
  pub spells : Spells bytes program
  pub stands : InGraph program fault
