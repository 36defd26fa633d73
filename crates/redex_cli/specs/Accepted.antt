-- The programs that a run goes on with, and those that it refuses for their types.
use Rattle.std.specs.Prelude.{◌≡◌, ◌<◌, ℕ, List, Ok, true, slice_index}
use Rattle.class_defs.specs.ClassGraph.{IsTwice}
use Rattle.dalvik_defs.specs.Naming.{named}
use Rattle.dex_read.specs.File.{program_at}
use Rattle.hierarchy.specs.Shapes.{IsAcyclic, IsResolved}
use Rattle.hierarchy.specs.Splitting.{NoSplit}
use Rattle.hierarchy.specs.declared.build.Hierarchy.{Hierarchy}
use Rattle.pass_defs.specs.Typed.{IsTyped}
use Rattle.program_model.specs.ProgramRules.{is_well_formed}
use Rattle.program_model.specs.declared.program.Program.{Program}
use Rattle.verify.specs.Methods.{RefusesOne, TypesAll}
use Rattle.verify.specs.declared.fault.TypeFault.{TypeFault}
use Rattle.verify.specs.declared.fault.TypeFault.TheVariants as typing

-- The class graph of the program has none of the three faults: no class is defined twice or is its own ancestor, and
-- none has a split override. The hierarchy's tables are those of the program.
pub record IsGraphOf (program : Program) (hierarchy : Hierarchy) : Type 0 where
  pub resolved : IsResolved program hierarchy
  pub once : (class : ℕ) → IsTwice program class → ⊥
  pub acyclic : IsAcyclic program
  pub unsplit : NoSplit program

-- Some bytes spell the program.
pub record IsOfBytes (program : Program) : Type 0 where
  pub bytes : List ℕ
  pub are_bytes : (i : ℕ) → slice_index bytes i < 256
  pub reads : program_at bytes ≡ Ok program

-- The program is one that was read, and well-formed, its class graph is accepted, and each of its bodies is well typed: by the
-- verifier's numbers, and by names.
pub record IsAccepted (program : Program) : Type 0 where
  pub read : IsOfBytes program
  pub formed : is_well_formed program ≡ true
  pub hierarchy : Hierarchy
  pub graph : IsGraphOf program hierarchy
  pub types : TypesAll program hierarchy
  pub typed : IsTyped (named program)

-- The program is well-formed, its class graph is accepted, and this is its first ill typed method, in class and method order:
-- the least flow of its code breaks first at this position, and there at this register. By names the program isn't typed.
pub record IsIllTyped (program : Program) (method position register : ℕ) : Type 0 where
  pub formed : is_well_formed program ≡ true
  pub hierarchy : Hierarchy
  pub graph : IsGraphOf program hierarchy
  pub refuses : RefusesOne program hierarchy (typing.IllTyped method position register)
  pub untyped : IsTyped (named program) → ⊥

-- the cause of a refusal by the verifier
abbrev pub IsTypeCause : Program → TypeFault → Type 0
IsTypeCause program typing.NoMemory = Unit {0}
IsTypeCause program (typing.IllTyped method position register) = IsIllTyped program method position register
