-- What is written for a program.
use Rattle.std.specs.Prelude.{◌≡◌, ◌<◌, ◌^◌, ℕ, List, [], ◌∷◌, ◌++◌, length, ⊤}
use Rattle.std.specs.List.{flat_map}
use Rattle.dex_pools.specs.declared.interner.Interner.{Interner}
use Rattle.dex_pools.specs.Interned.{IsInterned}
use Rattle.program_model.specs.declared.pass.Renumber.{Renumber}
use Rattle.program_model.specs.declared.program.Class.{Class}
use Rattle.program_model.specs.declared.program.Program.{Program}
use Rattle.widths.specs.Widths.{IsInWidth}
use Rattle.dex_write.specs.File.{IsSealed}
use Rattle.dex_write.specs.Plans.{Plan}
use Rattle.dex_write.specs.Codes.{IsPlan}
use Rattle.dex_write.specs.Order.{IsOrder, classes_at}
use Rattle.dex_write.specs.Places.{file_for}

-- the plans of these classes, in turn
abbrev pub ArePlans : Program → Renumber → List Class → List Plan → Type 0
ArePlans p r [] [] = ⊤
ArePlans p r (c ∷ classes) (plan ∷ plans) = IsPlan p r c plan × ArePlans p r classes plans
ArePlans p r [] (plan ∷ plans) = ⊥
ArePlans p r (c ∷ classes) [] = ⊥

-- and there are no other plans of these classes
pub record AreOnlyPlans (p : Program) (r : Renumber) (classes : List Class) (plans : List Plan) : Type 0 where
  pub one : (others : List Plan) → ArePlans p r classes others → others ≡ plans

-- the plans of these classes were added
pub record MorePlans (p : Program) (r : Renumber) (classes : List Class) (old new : List Plan) : Type 0 where
  pub plans : List Plan
  pub is : new ≡ old ++ plans
  pub planned : ArePlans p r classes plans

-- the file, sealed and of fewer than 2^32 bytes, of a program that uses these entries
pub record IsWrittenBy (p : Program) (interner : Interner) (bytes : List ℕ) : Type 0 where
  pub places : List ℕ
  pub ordered : IsOrder p places
  pub plans : List Plan
  pub planned : ArePlans p interner.numbers (flat_map (classes_at p) places) plans
  pub file : bytes ≡ file_for p interner plans
  pub sealed : IsSealed p.version bytes
  pub few : length bytes < 2 ^ 32

-- The file of the entries that the program uses, in order, and of its classes in the order in which each comes directly
-- behind those above it that were not written yet. It is sealed, and 32 bits count its bytes; and the numbers of the program, which is
-- one in memory, are values of their types.
pub record IsWritten (p : Program) (bytes : List ℕ) : Type 0 where
  pub interner : Interner
  pub interned : IsInterned p interner
  pub places : List ℕ
  pub ordered : IsOrder p places
  pub plans : List Plan
  pub planned : ArePlans p interner.numbers (flat_map (classes_at p) places) plans
  pub file : bytes ≡ file_for p interner plans
  pub sealed : IsSealed p.version bytes
  pub few : length bytes < 2 ^ 32
  pub wide : IsInWidth p
