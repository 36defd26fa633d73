-- The class graph of a program, or a fault in it.
use Rattle.std.specs.Prelude.{◌≡◌, true, Option, MatchOption}
use Rattle.program_model.specs.ProgramRules.{is_well_formed}
use Rattle.program_model.specs.declared.program.Program.{Program}
use Rattle.hierarchy.specs.Shapes.{IsAcyclic, IsCause, IsResolved}
use Rattle.hierarchy.specs.declared.build.Hierarchy.{Hierarchy}
use Rattle.hierarchy.specs.declared.fault.HierarchyFault.{HierarchyFault}
use Rattle.hierarchy.specs.declared.fault.HierarchyFault.TheVariants as fault

-- the tables are those of the program, no class of which is defined twice or is its own ancestor
pub record HasGraph (p : Program) (h : Hierarchy) : Type 0 where
  pub resolved : IsResolved p h
  pub grounded : IsAcyclic p

-- want of memory is no fault of a program
abbrev pub IsFault : HierarchyFault → Type 0
IsFault fault.NoMemory = ⊥
IsFault _ = Unit {0}

-- a program whose class graph has a fault
pub record HasGraphFault (p : Program) : Type 0 where
  pub fault : HierarchyFault
  pub is : IsFault fault
  pub cause : IsCause p fault

-- what was found of a well-formed program: its class graph, or that it has a fault
abbrev pub IsGraph : Program → Option Hierarchy → Type 0
IsGraph p found = is_well_formed p ≡ true → MatchOption found (HasGraphFault p) (HasGraph p)
