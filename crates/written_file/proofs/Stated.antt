-- The laws of the tables from the rule of well-formed programs.
use Rattle.std.proofs.Common.{◌≡◌, ◌<◌, ℕ, length, true}
use Rattle.std.specs.Prelude.{nat_eq}
use Rattle.std.specs.List.{list_any}
use Rattle.dex_pools.specs.declared.interner.Interner.{Interner}
use Rattle.dex_pools.specs.Interned.{IsInterned}
use Rattle.program_model.specs.declared.program.Program.{Program}
use Rattle.program_model.specs.ProgramRules.{is_well_formed}
use Rattle.dex_defs.specs.Written.{class_order, written_by}
use Rattle.dex_defs.specs.Valid.{AllUsed}
use Rattle.write_laws.specs.Used.{IsShort}
use Rattle.write_laws.specs.Fits.{TablesFit}
use Rattle.write_laws.proofs.Tabled.{short_of, is_short, tables_are_fit}
use Rattle.written_file.specs.Widths.{HasWidths}
use Rattle.written_file.proofs.Fit.{Parts, parts_of}
use Rattle.written_file.proofs.Texts.{texts_fit}
use Rattle.written_file.proofs.Used.{all_used}

pub tables_fit : (p : Program) (i : Interner) → is_well_formed p ≡ true → IsInterned p i → HasWidths p → TablesFit (written_by i p)
tables_fit p i formed h widths =
    let parts : Parts p = parts_of p formed in
    tables_are_fit p i parts.short parts.entries parts.differ h (texts_fit p i (is_short p (short_of p parts.short)) h parts widths)

pub used_all : (p : Program) (i : Interner) → is_well_formed p ≡ true → IsInterned p i → ((k : ℕ) → k < length p.classes → list_any (nat_eq k) (class_order p) ≡ true) → AllUsed (written_by i p)
used_all p i formed h every = let parts : Parts p = parts_of p formed in all_used p i (is_short p (short_of p parts.short)) h every
