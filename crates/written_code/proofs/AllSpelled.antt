-- All classes are spelled, where their code and their first values are read.
use Rattle.std.proofs.Common.{◌≡◌, ◌+◌, ◌*◌, ℕ, suc, List, [], ◌∷◌, length, map, take, drop, sym, subst, Some}
use Rattle.std.specs.Prelude.{slice_get}
use Rattle.std.specs.List.{AllByRecursion}
use Rattle.dex_base.specs.Decides.{Each}
use Rattle.program_model.specs.declared.pass.Renumber.{Renumber}
use Rattle.program_model.specs.declared.value.EncValue.{EncValue}
use Rattle.program_model.specs.declared.program.Class.{Class}
use Rattle.program_model.specs.declared.program.Program.{Program}
use Rattle.dex_pools.specs.declared.interner.Interner.{Interner}
use Rattle.dex_pools.specs.Interned.{IsInterned}
use Rattle.dex_pools.specs.Spelled.{AreParameters}
use Rattle.dex_write.specs.declared.tables.ClassOffsets.{ClassOffsets}
use Rattle.dex_write.specs.Plans.{Plan, parameter_marks}
use Rattle.dex_write.specs.Codes.{codes_behind, lines_behind}
use Rattle.dex_write.specs.Sets.{behind_class}
use Rattle.dex_write.specs.Written.{ArePlans}
use Rattle.dex_defs.specs.Annotations.{IsDirectoryOf, AreParameterMarksOf}
use Rattle.dex_defs.specs.Arranged.{Both}
use Rattle.dex_defs.specs.ClassData.{IsClassDataOf}
use Rattle.dex_defs.specs.ClassDefs.{HasCode, IsDef, IsClass}
use Rattle.dex_defs.specs.Values.{AreValuesOf, AreFirsts}
use Rattle.dex_defs.specs.Spells.{sizes_in}
use Rattle.dex_defs.specs.Valid.{ClassPart, classes_at, methods_of, ref_offsets, NamesAll}
use Rattle.dex_defs.specs.Written.{new_marks, written_method, written_class, written_by}
use Rattle.write_laws.specs.Used.{IsShort}
use Rattle.written_file.proofs.Fit.{FitsClass}
use Rattle.written_file.specs.Parts.{class_part, class_parts}
use Rattle.written_file.proofs.Members.{field_at, method_at}
use Rattle.written_file.proofs.KindFields.{HasPlan}
use Rattle.written_code.proofs.Apart.{HasSets}
use Rattle.written_code.proofs.Class.{class_spelled}
use Rattle.written_code.proofs.Known.{facts_of}

-- the lists of sets that a class's directory names
abbrev pub HasLists : List ℕ → Program → Renumber → Plan → ClassPart → Type 0
HasLists bytes q r plan x = Both (λ offset marks. AreParameterMarksOf bytes (sizes_in q) offset (map (new_marks r) marks)) (ref_offsets x) (map (λ m. parameter_marks plan.class m.place) plan.methods)

-- each method of a class is read with its code and its lines
abbrev pub HasCodes : List ℕ → Program → Renumber → Plan → ClassPart → Type 0
HasCodes bytes q r plan x = Both (λ e m. HasCode bytes (length q.types) e.code m.body m.lines) (methods_of x.lists) (map (λ m. written_method r (method_at plan.class m.place)) plan.methods)

-- the first values are those of the static fields
abbrev pub HasFirsts : Program → Renumber → Plan → ClassPart → Type 0
HasFirsts q r plan x = AreFirsts q x.values (map (λ f. field_at r plan.class f.1) (take plan.statics plan.fields))

module _ (p : Program) (i : Interner) (few : IsShort p) (h : IsInterned p i) (fits : (k : ℕ) (c : Class) → slice_get p.classes k ≡ Some c → FitsClass p c) where
  abbrev q : Program
  q = written_by i p

  abbrev r : Renumber
  r = i.numbers

  pub all_spelled : (bytes : List ℕ) (cs : List Class) (offsets : ClassOffsets) (values : Plan → List EncValue) (place code_at lines_at : ℕ) (sets refs : List ℕ) (ps : List Plan) → ArePlans p r cs ps → AllByRecursion (HasPlan p i few h fits) ps
      → Each (λ k x. IsDef bytes (classes_at q + 32 * k) x.def) place (class_parts r offsets values place code_at lines_at sets refs ps)
      → AllByRecursion (λ x. IsClassDataOf bytes x.def.data_at x.lists) (class_parts r offsets values place code_at lines_at sets refs ps)
      → AllByRecursion (λ x. IsDirectoryOf bytes x.def.annotations x.directory × NamesAll x.directory) (class_parts r offsets values place code_at lines_at sets refs ps)
      → Both (HasSets bytes (sizes_in q) r) ps (class_parts r offsets values place code_at lines_at sets refs ps)
      → Both (HasLists bytes q r) ps (class_parts r offsets values place code_at lines_at sets refs ps)
      → Both (HasCodes bytes q r) ps (class_parts r offsets values place code_at lines_at sets refs ps)
      → Both (λ c x. AreParameters bytes (length q.types) x.def.interfaces c.interfaces) (map (written_class r p) cs) (class_parts r offsets values place code_at lines_at sets refs ps)
      → AllByRecursion (λ x. AreValuesOf bytes (sizes_in q) x.def.values x.values) (class_parts r offsets values place code_at lines_at sets refs ps)
      → Both (HasFirsts q r) ps (class_parts r offsets values place code_at lines_at sets refs ps)
      → Each (λ k c. IsClass bytes q (sizes_in q) (classes_at q + 32 * k) c) place (map (written_class r p) cs)
  all_spelled bytes [] offsets values place code_at lines_at sets refs [] are a defs lists directories marks parameters codes interfaces spelled firsts = tt
  all_spelled bytes [] offsets values place code_at lines_at sets refs (plan ∷ ps) are a defs lists directories marks parameters codes interfaces spelled firsts = absurd are
  all_spelled bytes (c ∷ cs) offsets values place code_at lines_at sets refs [] are a defs lists directories marks parameters codes interfaces spelled firsts = absurd are
  all_spelled bytes (c ∷ cs) offsets values place code_at lines_at sets refs (plan ∷ ps) are a defs lists directories marks parameters codes interfaces spelled firsts =
      let x : ClassPart = class_part r offsets values place code_at lines_at sets refs plan in
      let same : plan.class ≡ c = are.0.class in
      let own : AreParameters bytes (length q.types) x.def.interfaces (written_class r p plan.class).interfaces = subst (λ (y : Class). AreParameters bytes (length q.types) x.def.interfaces (written_class r p y).interfaces) (sym same) interfaces.0 in
      let one : IsClass bytes q (sizes_in q) (classes_at q + 32 * place) (written_class r p plan.class) =
      class_spelled bytes p q r offsets values place code_at lines_at sets refs plan (classes_at q + 32 * place) (facts_of p i few h fits plan a.0) defs.0 lists.0 directories.0.0 marks.0 parameters.0 codes.0 own spelled.0 firsts.0 in (
        subst (λ (y : Class). IsClass bytes q (sizes_in q) (classes_at q + 32 * place) (written_class r p y)) same one,
        all_spelled bytes cs offsets values (suc place) (codes_behind code_at plan.methods) (lines_behind lines_at plan.methods) (behind_class plan sets) (drop (length plan.methods) refs) ps are.1 a.1 defs.1 lists.1 directories.1 marks.1 parameters.1 codes.1 interfaces.1 spelled.1 firsts.1,
      )
