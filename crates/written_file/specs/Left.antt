-- What is left to show of the classes and the sets that are written.
use Rattle.std.specs.Prelude.{◌+◌, ◌*◌, ℕ, List, length}
use Rattle.std.specs.List.{flat_map, AllByRecursion}
use Rattle.dex_base.specs.Decides.{Entries}
use Rattle.dex_pools.specs.declared.interner.Interner.{Interner}
use Rattle.program_model.specs.declared.program.Program.{Program}
use Rattle.dex_write.specs.Plans.{Plan}
use Rattle.dex_defs.specs.ClassDefs.{IsClass}
use Rattle.dex_defs.specs.Spells.{sizes_in}
use Rattle.dex_defs.specs.Arranged.{Both}
use Rattle.dex_defs.specs.Values.{AreValuesOf}
use Rattle.dex_defs.specs.Valid.{classes_at, methods_of, AreCodes}
use Rattle.written_file.specs.Reads.{Reads}
use Rattle.written_file.specs.Parts.{parts_of_file, sets_of_file}

pub record Left (bytes : List ℕ) (p : Program) (i : Interner) (plans : List Plan) (q : Program) : Type 0 where
  pub spelled : Entries (length q.classes) (λ k. IsClass bytes q (sizes_in q) (classes_at q + 32 * k)) q.classes
  pub values : AllByRecursion (λ x. AreValuesOf bytes (sizes_in q) x.def.values x.values) (parts_of_file p i plans)
  pub codes : Both (λ c x. AreCodes bytes q (methods_of x.lists) c.methods x.codes) q.classes (parts_of_file p i plans)
  pub marks : AllByRecursion (Reads bytes (sizes_in q)) (flat_map (λ s. s.marks) (sets_of_file p i plans))

-- the same without annotations and first values
pub record LeftOfCode (bytes : List ℕ) (p : Program) (i : Interner) (plans : List Plan) (q : Program) : Type 0 where
  pub spelled : Entries (length q.classes) (λ k. IsClass bytes q (sizes_in q) (classes_at q + 32 * k)) q.classes
  pub codes : Both (λ c x. AreCodes bytes q (methods_of x.lists) c.methods x.codes) q.classes (parts_of_file p i plans)
