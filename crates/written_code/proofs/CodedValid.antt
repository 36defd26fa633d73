-- What is written is valid where its classes are spelled.
use Rattle.std.proofs.Common.{◌≡◌, ◌<◌, ◌+◌, ◌*◌, ◌^◌, ℕ, List, length}
use Rattle.std.specs.Prelude.{true}
use Rattle.dex_base.specs.Decides.{Entries}
use Rattle.program_model.specs.declared.program.Program.{Program}
use Rattle.program_model.specs.ProgramRules.{is_well_formed}
use Rattle.class_defs.specs.ClassGraph.{IsTwice, IsAncestor}
use Rattle.dex_write.specs.File.{IsSealed}
use Rattle.dex_write.specs.Written as writer
use Rattle.dex_defs.specs.Written.{written_by}
use Rattle.dex_defs.specs.LaysOut.{LaysOut}
use Rattle.dex_defs.specs.Arranged.{Both}
use Rattle.dex_defs.specs.ClassDefs.{IsClass}
use Rattle.dex_defs.specs.Spells.{sizes_in}
use Rattle.dex_defs.specs.Valid.{AreCodes, classes_at, methods_of}
use Rattle.write_laws.specs.Kinds.{IsValidFile}
use Rattle.written_file.specs.Widths.{HasWidths}
use Rattle.written_file.proofs.Stated.{tables_fit}
use Rattle.written_file.specs.Rises.{NamesRise}
use Rattle.written_file.specs.Wide.{HasWideValues}
use Rattle.written_code.specs.Widths.{HasWideCode}
use Rattle.written_file.specs.Parts.{parts_of_file}
use Rattle.written_file.proofs.Whole.{whole}
use Rattle.written_code.proofs.AllCodes.{codes_stand}

pub codes : (p : Program) (bytes : List ℕ) (w : writer.IsWritten p bytes) → is_well_formed p ≡ true → ((class : ℕ) → IsTwice p class → ⊥) → ((class : ℕ) → IsAncestor p class class → ⊥) → HasWidths p → HasWideCode p → LaysOut (written_by w.interner p) → length bytes < 2 ^ 32
    → Both (λ c x. AreCodes bytes (written_by w.interner p) (methods_of x.lists) c.methods x.codes) (written_by w.interner p).classes (parts_of_file p w.interner w.plans)
codes p bytes w formed once acyclic widths code lays few = codes_stand p bytes w formed once acyclic (tables_fit p w.interner formed w.interned widths) code lays few

pub coded : (p : Program) (bytes : List ℕ) (w : writer.IsWritten p bytes) → is_well_formed p ≡ true → ((class : ℕ) → IsTwice p class → ⊥) → ((class : ℕ) → IsAncestor p class class → ⊥) → HasWidths p → HasWideValues p → HasWideCode p → LaysOut (written_by w.interner p) → NamesRise p → IsSealed p.version bytes → length bytes < 2 ^ 32
    → Entries (length (written_by w.interner p).classes) (λ k. IsClass bytes (written_by w.interner p) (sizes_in (written_by w.interner p)) (classes_at (written_by w.interner p) + 32 * k)) (written_by w.interner p).classes → IsValidFile p bytes (written_by w.interner p)
coded p bytes w formed once acyclic widths wide code lays sorted sealed few spelled = whole p bytes w formed once acyclic widths wide sorted sealed few (record { spelled = spelled; codes = codes p bytes w formed once acyclic widths code lays few })
