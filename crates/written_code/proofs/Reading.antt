-- All methods of a written file are read with their code and their lines.
use Rattle.std.proofs.Common.{◌≡◌, ◌<◌, ◌+◌, ◌^◌, ℕ, zero, suc, true, false, List, [], ◌∷◌, ◌++◌, length, map, take, drop, Option, Some, None, refl, sym, ap, subst, ◌∙◌, arith}
use Rattle.std.specs.Prelude.{slice_get, option_and_then}
use Rattle.std.specs.List.{AllByRecursion}
use Rattle.lemmas.proofs.Options.{some_same}
use Rattle.program_model.specs.declared.pools.Proto.{Proto}
use Rattle.program_model.specs.declared.pools.MethodName.{MethodName}
use Rattle.program_model.specs.declared.value.EncValue.{EncValue}
use Rattle.program_model.specs.declared.program.Method.{Method}
use Rattle.program_model.specs.declared.program.Class.{Class}
use Rattle.program_model.specs.declared.program.Program.{Program}
use Rattle.program_model.specs.MemberRules.{is_direct, proto_of}
use Rattle.dex_pools.specs.declared.interner.Interner.{Interner}
use Rattle.dex_pools.specs.Interned.{IsInterned}
use Rattle.dex_pools.specs.Tables.{letters_of}
use Rattle.dex_write.specs.declared.ordered.MethodPart.{MethodPart}
use Rattle.dex_write.specs.declared.tables.ClassOffsets.{ClassOffsets}
use Rattle.dex_write.specs.Plans.{Plan}
use Rattle.dex_write.specs.Codes.{codes_behind, lines_behind, parts_of}
use Rattle.dex_write.specs.Sets.{behind_class}
use Rattle.dex_write.specs.Written.{ArePlans}
use Rattle.dex_defs.specs.Arranged.{Both}
use Rattle.dex_defs.specs.ClassDefs.{HasCode}
use Rattle.dex_defs.specs.LaysOut.{LaysOutMethod}
use Rattle.dex_defs.specs.Valid.{parameters_of}
use Rattle.dex_defs.specs.Written.{new_method, written_method, written_class, written_by}
use Rattle.write_laws.specs.Used.{IsShort}
use Rattle.write_laws.specs.Fits.{FitsProto, TablesFit}
use Rattle.write_laws.specs.Listing.{method_entries}
use Rattle.write_laws.specs.Placing.{item_texts, code_offsets, line_offsets}
use Rattle.written_file.proofs.Fit.{Parts, FitsClass}
use Rattle.written_code.specs.Widths.{HasWideCode}
use Rattle.written_file.specs.Parts.{class_parts}
use Rattle.written_file.proofs.Members.{method_at}
use Rattle.written_file.proofs.KindFields.{HasPlan}
use Rattle.written_file.proofs.Standing.{Stands, both_split}
use Rattle.written_code.proofs.Fitting.{FewEntries}
use Rattle.written_code.proofs.AllCodes.{Cells, GoodMethod, methods_are, offsets_append, texts_append, lines_append, map_append, many_codes, many_lines, spots_all, all_both, good_all}
use Rattle.written_code.proofs.AllSpelled.{HasCodes}
use Rattle.written_code.proofs.Coded.{methods_read}

-- ---- how many parameters a method has

all_get : {X : Type 0} (P : X → Type 0) (xs : List X) (k : ℕ) (x : X) → AllByRecursion P xs → slice_get xs k ≡ Some x → P x
all_get P [] k x a e = absurd cc
all_get P (y ∷ ys) zero x a e = subst P (some_same y x e) a.0
all_get P (y ∷ ys) (suc k) x a e = all_get P ys k x a.1 e

few_of : (o : Option Proto) → ((y : Proto) → o ≡ Some y → length y.parameters < 2 ^ 32) → elim o [ Some proto ↦ length proto.parameters | None ↦ 0 ] < 2 ^ 32
few_of None f = omega arith
few_of (Some y) f = f y refl

parameters_few : (q : Program) → TablesFit q → (m : Method) → parameters_of q m < 2 ^ 32
parameters_few q tables m = few_of (proto_of q m.name) (λ y e. by (slice_get q.methods m.name) y e)
  where
    by : (o : Option MethodName) (y : Proto) → option_and_then (λ x. slice_get q.protos x.proto) o ≡ Some y → length y.parameters < 2 ^ 32
    by None y e = absurd cc
    by (Some x) y e = (all_get (FitsProto q.strings (length q.types) (letters_of q.strings q.types)) q.protos x.proto y tables.protos e).parameters.short

all_few : (q : Program) → TablesFit q → (f : MethodPart → Method) (ms : List MethodPart) → AllByRecursion (λ m. parameters_of q (f m) < 2 ^ 32) ms
all_few q tables f [] = tt
all_few q tables f (m ∷ ms) = (parameters_few q tables (f m), all_few q tables f ms)

-- ---- all classes

module _ (p : Program) (i : Interner) (parts : Parts p) (few : IsShort p) (h : IsInterned p i) (fits : (k : ℕ) (c : Class) → slice_get p.classes k ≡ Some c → FitsClass p c) (fit : FewEntries p (written_by i p)) (cells : Cells p) (wide : HasWideCode p) where
  pub all_read : (bytes : List ℕ) (cs : List Class) (offsets : ClassOffsets) (values : Plan → List EncValue) (place code_at lines_at : ℕ) (sets refs : List ℕ) (ps : List Plan) → length bytes < 2 ^ 32 → TablesFit (written_by i p) → ArePlans p i.numbers cs ps → AllByRecursion (HasPlan p i few h fits) ps
      → AllByRecursion (λ c. AllByRecursion (λ m. LaysOutMethod m.body) c.methods) (map (written_class i.numbers p) cs)
      → Both (Stands bytes) (code_offsets code_at (parts_of ps)) (item_texts lines_at (parts_of ps)) → Both (Stands bytes) (line_offsets lines_at (parts_of ps)) (map (λ m. m.lines) (parts_of ps))
      → Both (HasCodes bytes (written_by i p) i.numbers) ps (class_parts i.numbers offsets values place code_at lines_at sets refs ps)
  all_read bytes [] offsets values place code_at lines_at sets refs [] few_file tables are a lays codes lines = tt
  all_read bytes [] offsets values place code_at lines_at sets refs (plan ∷ ps) few_file tables are a lays codes lines = absurd are
  all_read bytes (c ∷ cs) offsets values place code_at lines_at sets refs [] few_file tables are a lays codes lines = absurd are
  all_read bytes (c ∷ cs) offsets values place code_at lines_at sets refs (plan ∷ ps) few_file tables are a lays codes lines =
      let x : HasPlan p i few h fits plan = a.0 in
      let same : x.c ≡ c = sym x.planned.class ∙ are.0.class in
      let ms : List MethodPart = plan.methods in
      let rest : List MethodPart = parts_of ps in
      let written : (written_class i.numbers p c).methods ≡ map (λ m. written_method i.numbers (method_at c m.place)) ms = ap (λ (y : Class). (written_class i.numbers p y).methods) (sym same) ∙ (x.planned.methods ∙ ap (λ (y : Class). map (λ m. written_method i.numbers (method_at y m.place)) ms) same) in
      let is_class : slice_get p.classes x.k ≡ Some c = x.is_class ∙ ap (λ (y : Class). Some y) same in
      let spots : AllByRecursion (λ part. (m : Method) × (slice_get x.c.methods part.place ≡ Some m)) ms = all_both (λ part. (m : Method) × (slice_get x.c.methods part.place ≡ Some m)) plan.directs ms (spots_all x.c (λ y. new_method i.numbers y.name) (λ y. is_direct p y) true (take plan.directs ms) x.planned.direct_spots) (spots_all x.c (λ y. new_method i.numbers y.name) (λ y. is_direct p y) false (drop plan.directs ms) x.planned.virtual_spots) in
      let good : AllByRecursion (GoodMethod p i few h fit c) ms = good_all p i parts few h fits fit cells wide x.k c ms is_class (subst (λ y. AllByRecursion (λ part. (m : Method) × (slice_get y.methods part.place ≡ Some m)) ms) same spots) (subst (λ l. AllByRecursion (λ m. LaysOutMethod m.body) l) written lays.0) in
      let both_codes = both_split (Stands bytes) (code_offsets code_at ms) (code_offsets (codes_behind code_at ms) rest) (item_texts lines_at ms) (item_texts (lines_behind lines_at ms) rest) (many_codes code_at lines_at ms) (subst (λ l. Both (Stands bytes) l (item_texts lines_at ms ++ item_texts (lines_behind lines_at ms) rest)) (offsets_append code_at ms rest) (subst (λ l. Both (Stands bytes) (code_offsets code_at (ms ++ rest)) l) (texts_append lines_at ms rest) codes)) in
      let both_lines = both_split (Stands bytes) (line_offsets lines_at ms) (line_offsets (lines_behind lines_at ms) rest) (map (λ m. m.lines) ms) (map (λ m. m.lines) rest) (many_lines lines_at ms) (subst (λ l. Both (Stands bytes) l (map (λ m. m.lines) ms ++ map (λ m. m.lines) rest)) (lines_append lines_at ms rest) (subst (λ l. Both (Stands bytes) (line_offsets lines_at (ms ++ rest)) l) (map_append (λ (m : MethodPart). m.lines) ms rest) lines)) in
      let one : Both (λ e m. HasCode bytes (length (written_by i p).types) e.code m.body m.lines) (method_entries c code_at ms) (map (λ m. written_method i.numbers (method_at c m.place)) ms) =
      methods_read p i few h fit bytes few_file c code_at lines_at ms are.0.coded good (all_few (written_by i p) tables (λ m. written_method i.numbers (method_at c m.place)) ms) both_codes.0 both_lines.0 in
      let own : Both (λ e m. HasCode bytes (length (written_by i p).types) e.code m.body m.lines) (method_entries plan.class code_at ms) (map (λ m. written_method i.numbers (method_at plan.class m.place)) ms) =
      subst (λ y. Both (λ e m. HasCode bytes (length (written_by i p).types) e.code m.body m.lines) (method_entries y code_at ms) (map (λ m. written_method i.numbers (method_at y m.place)) ms)) (sym are.0.class) one in (
        subst (λ l. Both (λ e m. HasCode bytes (length (written_by i p).types) e.code m.body m.lines) l (map (λ m. written_method i.numbers (method_at plan.class m.place)) ms)) (sym (methods_are plan code_at)) own,
        all_read bytes cs offsets values (suc place) (codes_behind code_at ms) (lines_behind lines_at ms) (behind_class plan sets) (drop (length ms) refs) ps few_file tables are.1 a.1 lays.1 both_codes.1 both_lines.1,
      )
