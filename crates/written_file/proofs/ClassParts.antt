-- The parts of the classes are what the file has for them.
use Rattle.std.proofs.Common.{◌≡◌, ◌≤◌, ◌+◌, ◌*◌, ℕ, suc, List, [], ◌∷◌, length, map, drop, sym, ap, ◌∙◌, arith, length-append, length-drop, Some}
use Rattle.std.specs.Prelude.{slice_get}
use Rattle.std.specs.List.{flat_map, AllByRecursion}
use Rattle.dex_base.specs.Decides.{Each}
use Rattle.dex_pools.specs.declared.interner.Interner.{Interner}
use Rattle.dex_pools.specs.Interned.{IsInterned}
use Rattle.program_model.specs.declared.value.EncValue.{EncValue}
use Rattle.program_model.specs.declared.program.Class.{Class}
use Rattle.program_model.specs.declared.program.Program.{Program}
use Rattle.dex_write.specs.declared.tables.ClassOffsets.{ClassOffsets}
use Rattle.dex_write.specs.Plans.{Plan}
use Rattle.dex_write.specs.Codes.{codes_behind, lines_behind}
use Rattle.dex_write.specs.Sets.{set_counts, own_count, parameter_count, behind_class}
use Rattle.dex_write.specs.Written.{ArePlans}
use Rattle.dex_defs.specs.Annotations.{IsDirectoryOf}
use Rattle.dex_defs.specs.Arranged.{Both}
use Rattle.dex_defs.specs.ClassData.{IsClassDataOf}
use Rattle.dex_defs.specs.ClassDefs.{IsDef}
use Rattle.dex_defs.specs.Spells.{sizes_in}
use Rattle.dex_defs.specs.Values.{AreValuesOf}
use Rattle.dex_defs.specs.Valid.{ClassPart, classes_at, methods_of, AreCodes, NamesAll, EndsInFirst, AreClassParts}
use Rattle.dex_defs.specs.Written.{written_class}
use Rattle.write_laws.specs.Used.{IsShort}
use Rattle.write_laws.proofs.Fitting.{plan_long}
use Rattle.written_file.proofs.Fit.{FitsClass}
use Rattle.written_file.specs.Parts.{class_parts}
use Rattle.written_file.proofs.ClassTable.{plan_refs}
use Rattle.written_file.proofs.KindFields.{HasPlan}

-- as many sets are named for each method as it has of parameters' annotations
abbrev pub HasRefs : Class → ClassPart → Type 0
HasRefs c x = Both (λ m offsets. length offsets ≡ length m.parameter_marks) c.methods x.refs

module _ (p : Program) (i : Interner) (few : IsShort p) (h : IsInterned p i) (fits : (k : ℕ) (c : Class) → slice_get p.classes k ≡ Some c → FitsClass p c) where
  pub all_refs : (cs : List Class) (offsets : ClassOffsets) (values : Plan → List EncValue) (place code_at lines_at : ℕ) (sets refs : List ℕ) (ps : List Plan) → ArePlans p i.numbers cs ps → AllByRecursion (HasPlan p i few h fits) ps → length (flat_map set_counts ps) ≤ length sets
      → Both HasRefs (map (written_class i.numbers p) cs) (class_parts i.numbers offsets values place code_at lines_at sets refs ps)
  all_refs [] offsets values place code_at lines_at sets refs [] are a le = tt
  all_refs [] offsets values place code_at lines_at sets refs (plan ∷ ps) are a le = absurd are
  all_refs (c ∷ cs) offsets values place code_at lines_at sets refs [] are a le = absurd are
  all_refs (c ∷ cs) offsets values place code_at lines_at sets refs (plan ∷ ps) are a le =
      let x : HasPlan p i few h fits plan = a.0 in
      let same : x.c ≡ c = sym x.planned.class ∙ are.0.class in
      let methods : (written_class i.numbers p c).methods ≡ (written_class i.numbers p x.c).methods = ap (λ (y : Class). (written_class i.numbers p y).methods) (sym same) in
      let long : length (flat_map set_counts (plan ∷ ps)) ≡ (own_count plan + parameter_count plan) + length (flat_map set_counts ps) = length-append (set_counts plan) (flat_map set_counts ps) ∙ ap (λ (n : ℕ). n + length (flat_map set_counts ps)) (plan_long plan) in (
        plan_refs i.numbers plan x.c sets (written_class i.numbers p c).methods x.planned.class (methods ∙ x.planned.methods) (omega (arith, le, long)),
        all_refs cs offsets values (suc place) (codes_behind code_at plan.methods) (lines_behind lines_at plan.methods) (behind_class plan sets) (drop (length plan.methods) refs) ps are.1 a.1 (omega (arith, le, long, length-drop (parameter_count plan) (drop (own_count plan) sets), length-drop (own_count plan) sets)),
      )

pub assembled : (bytes : List ℕ) (q : Program) (k : ℕ) (cs : List Class) (xs : List ClassPart) → Each (λ j x. IsDef bytes (classes_at q + 32 * j) x.def) k xs → AllByRecursion (λ x. IsClassDataOf bytes x.def.data_at x.lists) xs → AllByRecursion (λ x. IsDirectoryOf bytes x.def.annotations x.directory × NamesAll x.directory) xs
    → AllByRecursion (λ x. AreValuesOf bytes (sizes_in q) x.def.values x.values) xs → Both (λ c x. EndsInFirst x.values c.fields) cs xs → Both (λ c x. AreCodes bytes q (methods_of x.lists) c.methods x.codes) cs xs → Both HasRefs cs xs → AreClassParts bytes q k cs xs
assembled bytes q k [] [] defs lists directories values firsts codes refs = tt
assembled bytes q k [] (x ∷ xs) defs lists directories values firsts codes refs = absurd firsts
assembled bytes q k (c ∷ cs) [] defs lists directories values firsts codes refs = absurd firsts
assembled bytes q k (c ∷ cs) (x ∷ xs) defs lists directories values firsts codes refs = (
  record { def = defs.0; lists = lists.0; directory = directories.0.0; pairs = directories.0.1; values = values.0; few = firsts.0; codes = codes.0; refs = refs.0 },
  assembled bytes q (suc k) cs xs defs.1 lists.1 directories.1 values.1 firsts.1 codes.1 refs.1,
)
