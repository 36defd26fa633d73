-- What is written is valid where its classes and their code are spelled.
use Rattle.std.proofs.Common.{◌≡◌, ◌<◌, ◌^◌, ℕ, List, length, map, sym, subst}
use Rattle.std.specs.Prelude.{slice_get, Some, true}
use Rattle.std.specs.List.{flat_map, AllByRecursion}
use Rattle.dex_pools.specs.declared.interner.Interner.{Interner}
use Rattle.dex_pools.specs.Interned.{IsInterned}
use Rattle.program_model.specs.declared.program.Class.{Class}
use Rattle.program_model.specs.declared.program.Program.{Program}
use Rattle.program_model.specs.ProgramRules.{is_well_formed}
use Rattle.class_defs.specs.ClassGraph.{IsTwice, IsAncestor}
use Rattle.dex_write.specs.File.{data_at, IsSealed}
use Rattle.dex_write.specs.Places.{counts_of, front_of, back_of, file_for}
use Rattle.dex_write.specs.Data.{array_text}
use Rattle.dex_write.specs.Order.{classes_at}
use Rattle.dex_write.specs.Plans.{Plan}
use Rattle.dex_write.specs.Written.{ArePlans}
use Rattle.dex_write.specs.Written as writer
use Rattle.dex_defs.specs.Arranged.{Both}
use Rattle.dex_defs.specs.ValueTexts as texts
use Rattle.dex_defs.specs.Written.{written_by}
use Rattle.write_laws.specs.Used.{IsShort}
use Rattle.write_laws.specs.Fits.{TablesFit}
use Rattle.write_laws.specs.Kinds.{Same, IsValidFile}
use Rattle.write_laws.specs.Placing.{AllLie, stops_of}
use Rattle.write_laws.proofs.Placing.{FitsPlans}
use Rattle.write_laws.proofs.Closing.{lie_same}
use Rattle.write_laws.proofs.Coded.{plans_fit}
use Rattle.write_laws.proofs.Whole.{file_lies}
use Rattle.write_laws.proofs.Tabled.{short_of, is_short, tables_are_fit}
use Rattle.written_file.specs.Widths.{HasWidths}
use Rattle.written_file.proofs.Fit.{Parts, parts_of as well_formed_parts, FitsClass, class_at_fits}
use Rattle.written_file.proofs.Texts.{texts_fit}
use Rattle.written_file.specs.Rises.{NamesRise}
use Rattle.written_file.specs.Wide.{HasWideValues}
use Rattle.written_file.specs.Left.{Left, LeftOfCode}
use Rattle.written_file.specs.Parts.{offsets_of, parts_of_file}
use Rattle.written_file.proofs.Small.{values_texts}
use Rattle.written_file.proofs.Standing.{Stands, all_stand}
use Rattle.written_file.proofs.KindFields.{HasPlan, all_planned, firsts_named}
use Rattle.written_file.proofs.Reading.{all_read}
use Rattle.written_file.proofs.FirstFits.{all_values}
use Rattle.written_file.proofs.Filed.{filed}

pub firsts_there : (file : List ℕ) (p : Program) (i : Interner) (plans : List Plan) → AllLie file p i plans → Same (map (λ c. c.def.values) (parts_of_file p i plans)) (back_of p i.numbers plans (front_of p i plans (data_at (counts_of i plans)))).firsts.offsets (map (λ c. texts.array_text c.values) (parts_of_file p i plans)) (map (array_text p i.numbers) plans)
    → Both (Stands file) (map (λ c. c.def.values) (parts_of_file p i plans)) (map (λ c. texts.array_text c.values) (parts_of_file p i plans))
firsts_there file p i plans lies same =
    all_stand file 1 (stops_of p i plans).marks (map (λ c. c.def.values) (parts_of_file p i plans)) (map (λ c. texts.array_text c.values) (parts_of_file p i plans)) (stops_of p i plans).values
    (lie_same file 1 (stops_of p i plans).marks (map (λ c. c.def.values) (parts_of_file p i plans)) (back_of p i.numbers plans (front_of p i plans (data_at (counts_of i plans)))).firsts.offsets (map (λ c. texts.array_text c.values) (parts_of_file p i plans)) (map (array_text p i.numbers) plans) (stops_of p i plans).values same lies.values)

left_of : (p : Program) (i : Interner) (places : List ℕ) (plans : List Plan) → IsInterned p i → ArePlans p i.numbers (flat_map (classes_at p) places) plans → is_well_formed p ≡ true → HasWidths p → HasWideValues p → NamesRise p
    → LeftOfCode (file_for p i plans) p i plans (written_by i p) → Left (file_for p i plans) p i plans (written_by i p)
left_of p i places plans interned are formed widths wide sorted left =
    let file : List ℕ = file_for p i plans in
    let parts : Parts p = well_formed_parts p formed in
    let few : IsShort p = is_short p (short_of p parts.short) in
    let fits : (k : ℕ) (c : Class) → slice_get p.classes k ≡ Some c → FitsClass p c = λ k c e. class_at_fits p k c parts e in
    let planned : AllByRecursion (HasPlan p i few interned fits) plans = all_planned p i few interned fits places plans are in
    let tables : TablesFit (written_by i p) = tables_are_fit p i parts.short parts.entries parts.differ interned (texts_fit p i few interned parts widths) in
    let whole : FitsPlans p i plans = plans_fit p i (flat_map (classes_at p) places) plans are in
    let lies : AllLie file p i plans = file_lies p i plans whole in
    let named : Same (map (λ c. c.def.values) (parts_of_file p i plans)) (back_of p i.numbers plans (front_of p i plans (data_at (counts_of i plans)))).firsts.offsets (map (λ c. texts.array_text c.values) (parts_of_file p i plans)) (map (array_text p i.numbers) plans) =
    record { offsets_are = firsts_named p i plans; texts_are = values_texts p i few interned fits plans planned } in
    record {
      spelled = left.spelled;
      values = all_values p i few interned fits wide sorted tables.strings_ascend file (offsets_of p i plans) 0 (front_of p i plans (data_at (counts_of i plans))).code.at (stops_of p i plans).strings (front_of p i plans (data_at (counts_of i plans))).sets.offsets (front_of p i plans (data_at (counts_of i plans))).refs.offsets plans planned (firsts_there file p i plans lies named);
      codes = left.codes;
      marks = all_read p i few interned fits wide sorted tables.strings_ascend file plans planned;
    }

pub whole : (p : Program) (bytes : List ℕ) (w : writer.IsWritten p bytes) → is_well_formed p ≡ true → ((class : ℕ) → IsTwice p class → ⊥) → ((class : ℕ) → IsAncestor p class class → ⊥) → HasWidths p → HasWideValues p → NamesRise p → IsSealed p.version bytes → length bytes < 2 ^ 32
    → LeftOfCode bytes p w.interner w.plans (written_by w.interner p) → IsValidFile p bytes (written_by w.interner p)
whole p bytes w formed once acyclic widths wide sorted sealed few left =
    let left_file : LeftOfCode (file_for p w.interner w.plans) p w.interner w.plans (written_by w.interner p) = subst (λ b. LeftOfCode b p w.interner w.plans (written_by w.interner p)) w.file left in
    let all : Left (file_for p w.interner w.plans) p w.interner w.plans (written_by w.interner p) = left_of p w.interner w.places w.plans w.interned w.planned formed widths wide sorted left_file in
    filed p bytes w formed once acyclic widths sorted sealed few (subst (λ b. Left b p w.interner w.plans (written_by w.interner p)) (sym w.file) all)
