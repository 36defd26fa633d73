-- The class_defs stand where the table of classes does, and the parts of classes are theirs.
use Rattle.std.proofs.Common.{◌≡◌, ◌≤◌, ◌<◌, ◌+◌, ◌-◌, ◌*◌, ◌^◌, inl, inr, ℕ, zero, suc, true, List, [], ◌∷◌, ◌++◌, length, map, drop, refl, sym, ap, subst, ◌∙◌, arith, length-drop, Option, Some, None, ltb-true}
use Rattle.std.specs.Prelude.{slice_get}
use Rattle.std.specs.List.{flat_map, AllByRecursion}
use Rattle.std.proofs.lemmas.List.{length-map, length-take-le}
use Rattle.dex_base.specs.Decides.{Each}
use Rattle.dex_pools.specs.declared.interner.Interner.{Interner}
use Rattle.dex_pools.specs.declared.used.Named.TheVariants as named
use Rattle.dex_pools.specs.Interned.{IsInterned}
use Rattle.dex_pools.specs.Used.{kind_names, source_names, class_names}
use Rattle.dex_pools.specs.Numbering.{used_in}
use Rattle.program_model.specs.declared.pass.Renumber.{Renumber}
use Rattle.program_model.specs.declared.pools.Proto.{Proto}
use Rattle.program_model.specs.declared.value.EncValue.{EncValue}
use Rattle.program_model.specs.declared.value.Mark.{Mark}
use Rattle.program_model.specs.declared.program.Method.{Method}
use Rattle.program_model.specs.declared.program.Class.{Class}
use Rattle.program_model.specs.declared.program.Program.{Program}
use Rattle.program_model.specs.Texts.{has_string, has_type}
use Rattle.program_model.specs.MemberRules.{source_fits}
use Rattle.std.proofs.lemmas.Bool.{and_parts}
use Rattle.dex_write.specs.declared.ordered.MethodPart.{MethodPart}
use Rattle.dex_write.specs.declared.tables.ClassOffsets.{ClassOffsets}
use Rattle.dex_write.specs.Numbers.{words, at_place}
use Rattle.dex_write.specs.Plans.{Plan, parameters_in, parameter_marks}
use Rattle.dex_write.specs.Codes.{codes_behind, lines_behind}
use Rattle.dex_write.specs.Sets.{ref_counts, own_count, parameter_count, own_offsets, behind_class}
use Rattle.dex_write.specs.Lists.{used_offset}
use Rattle.dex_write.specs.Tables.{pair, source_word, class_row}
use Rattle.dex_defs.specs.Here.{Here}
use Rattle.dex_defs.specs.Arranged.{Both}
use Rattle.dex_defs.specs.ClassDefs.{IsDef}
use Rattle.dex_defs.specs.Valid as valid
use Rattle.dex_defs.specs.Written.{new_string, new_type, new_marks, written_method, written_by}
use Rattle.write_laws.specs.Used.{IsUsed, IsShort}
use Rattle.write_laws.proofs.Ranges.{ranges_kept}
use Rattle.write_laws.specs.Fits.{TablesFit}
use Rattle.write_laws.proofs.Numbers.{Few}
use Rattle.write_laws.proofs.Defs.{defs_of, FewDefs}
use Rattle.write_laws.proofs.Pools.{proto_rows, words_at, rows_length, protos_long}
use Rattle.write_laws.proofs.Lying.{total}
use Rattle.write_laws.proofs.Fitting.{sum_total}
use Rattle.written_file.specs.Widths.{ClassFits, HasWidths}
use Rattle.written_file.proofs.Fit.{FitsClass}
use Rattle.written_file.proofs.In.{In, in_left, in_right, in_got, all_in}
use Rattle.written_file.specs.Parts.{split_by, class_parts}
use Rattle.written_file.proofs.Members.{method_or, method_at}
use Rattle.written_file.proofs.Plans.{class_used, named_name, named_super}
use Rattle.written_file.proofs.KindFields.{HasPlan}

-- ---- the table

pub classes_there : (bytes : List ℕ) (q : Program) (strings parameters classes : List ℕ) (P : Proto → ℕ → Type 0) → length strings ≡ length q.strings → Both P q.protos parameters
    → Here bytes 112 (words (strings ++ (q.types ++ (proto_rows q.protos parameters ++ (flat_map (λ f. pair f.class f.kind ∷ f.name ∷ []) q.fields ++ (flat_map (λ m. pair m.class m.proto ∷ m.name ∷ []) q.methods ++ classes)))))) → Here bytes (valid.classes_at q) (words classes)
classes_there bytes q strings parameters classes P many leads h =
    let protos : List ℕ = proto_rows q.protos parameters in
    let fields : List ℕ = flat_map (λ f. pair f.class f.kind ∷ f.name ∷ []) q.fields in
    let methods : List ℕ = flat_map (λ m. pair m.class m.proto ∷ m.name ∷ []) q.methods in
    let p3 : length protos ≡ 3 * length q.protos = protos_long P q.protos parameters leads in
    let p2 : length fields ≡ 2 * length q.fields = rows_length (λ f. pair f.class f.kind ∷ f.name ∷ []) (λ f. refl) q.fields in
    let p1 : length methods ≡ 2 * length q.methods = rows_length (λ m. pair m.class m.proto ∷ m.name ∷ []) (λ m. refl) q.methods in
    let a = words_at bytes 112 (valid.types_at q) strings (q.types ++ (protos ++ (fields ++ (methods ++ classes)))) (omega (arith, many)) h in
    let b = words_at bytes (valid.types_at q) (valid.protos_at q) q.types (protos ++ (fields ++ (methods ++ classes))) (omega arith) a.1 in
    let c = words_at bytes (valid.protos_at q) (valid.fields_at q) protos (fields ++ (methods ++ classes)) (omega (arith, p3)) b.1 in
    let d = words_at bytes (valid.fields_at q) (valid.methods_at q) fields (methods ++ classes) (omega (arith, p2)) c.1 in
    (words_at bytes (valid.methods_at q) (valid.classes_at q) methods classes (omega (arith, p1)) d.1).1

-- ---- each number fits

pub few_place : (xs : List ℕ) (k : ℕ) → Few xs → at_place xs k < 2 ^ 32
few_place [] k f = omega arith
few_place (x ∷ xs) zero f = f.0
few_place (x ∷ xs) (suc k) f = few_place xs k f.1

pub few_uses : (starts : List ℕ) (xs : List (Option ℕ)) → Few starts → Few (map (used_offset starts) xs)
few_uses starts [] f = tt
few_uses starts (None ∷ xs) f = (omega arith, few_uses starts xs f)
few_uses starts (Some k ∷ xs) f = (few_place starts k f, few_uses starts xs f)

source_named : (c : Class) (s : ℕ) → c.source ≡ Some s → In (named.Text s) (class_names c)
unfolding class_names
source_named c s e = inr (inr (in_right (named.Text s) (flat_map kind_names c.interfaces) _ (in_left (named.Text s) (source_names c.source) _ (subst (λ o. In (named.Text s) (source_names o)) (sym e) (inl refl)))))

-- the offsets of the classes fit
pub record FewOffsets (o : ClassOffsets) : Type 0 where
  pub interfaces : Few o.interfaces
  pub directories : Few o.directories
  pub members : Few o.data
  pub firsts : Few o.firsts

module _ (p : Program) (i : Interner) (few : IsShort p) (h : IsInterned p i) (fits : (k : ℕ) (c : Class) → slice_get p.classes k ≡ Some c → FitsClass p c) (tables : TablesFit (written_by i p)) (widths : HasWidths p) where
  type_few : (n : ℕ) → IsUsed (used_in p) (named.Kind n) → has_type p n ≡ true → new_type i.numbers n < 2 ^ 32
  type_few n u t = omega (arith, ranges_kept p i few h (named.Kind n) u (ltb-true n (length p.types) t), tables.few_types)

  source_few : (k : ℕ) (c : Class) → slice_get p.classes k ≡ Some c → source_word i.numbers c.source < 2 ^ 32
  source_few k c e = by_source c.source refl
    where
      by_source : (o : Option ℕ) → c.source ≡ o → source_word i.numbers c.source < 2 ^ 32
      by_source None s = subst (λ o. source_word i.numbers o < 2 ^ 32) (sym s) (omega arith)
      by_source (Some n) s =
          let there : has_string p n ≡ true = subst (λ o. source_fits p o ≡ true) s (fits k c e).source in
          let low : new_string i.numbers n < length (written_by i p).strings = ranges_kept p i few h (named.Text n) (class_used p k c e (named.Text n) (source_named c n s)) (ltb-true n (length p.strings) there) in
          subst (λ o. source_word i.numbers o < 2 ^ 32) (sym s) (omega (arith, low, tables.few_strings))

  row_few : (k : ℕ) (c : Class) → slice_get p.classes k ≡ Some c → (offsets : ClassOffsets) → FewOffsets offsets → (place : ℕ) → Few (class_row i.numbers c offsets place)
  row_few k c e offsets o place =
      let fit : FitsClass p c = fits k c e in
      let own : ClassFits c = all_in ClassFits c p.classes widths.classes (in_got p.classes k c e) in
      let above = and_parts (has_type p c.superclass) _ fit.above in (
        type_few c.name (class_used p k c e (named.Kind c.name) (named_name c)) fit.name,
        (
          own.flags,
          (
            type_few c.superclass (class_used p k c e (named.Kind c.superclass) (named_super c)) above.0,
            (
              few_place offsets.interfaces place o.interfaces,
              (
                source_few k c e,
                (
                  few_place offsets.directories place o.directories,
                  (
                    few_place offsets.data place o.members,
                    (few_place offsets.firsts place o.firsts, tt),
                  ),
                ),
              ),
            ),
          ),
        ),
      )

  pub defs_few : (offsets : ClassOffsets) → FewOffsets offsets → (place : ℕ) (plans : List Plan) → AllByRecursion (HasPlan p i few h fits) plans → FewDefs i.numbers offsets place plans
  defs_few offsets o place [] a = tt
  defs_few offsets o place (plan ∷ plans) a = (subst (λ c. Few (class_row i.numbers c offsets place)) (sym a.0.planned.class) (row_few a.0.k a.0.c a.0.is_class offsets o place), defs_few offsets o (suc place) plans a.1)

-- ---- the parts have these defs

pub parts_defs : (bytes : List ℕ) (at : ℕ) (r : Renumber) (offsets : ClassOffsets) (values : Plan → List EncValue) (place code_at lines_at : ℕ) (sets refs : List ℕ) (ps : List Plan) → Each (λ k d. IsDef bytes (at + 32 * k) d) place (defs_of r offsets place ps) → Each (λ k x. IsDef bytes (at + 32 * k) x.def) place (class_parts r offsets values place code_at lines_at sets refs ps)
parts_defs bytes at r offsets values place code_at lines_at sets refs [] e = tt
parts_defs bytes at r offsets values place code_at lines_at sets refs (p ∷ ps) e = (e.0, parts_defs bytes at r offsets values (suc place) (codes_behind code_at p.methods) (lines_behind lines_at p.methods) (behind_class p sets) (drop (length p.methods) refs) ps e.1)

-- ---- as many sets are named for each method as it has of parameters' annotations

same_parameters : (o : Option Method) → parameters_in o ≡ (method_or o).parameter_marks
same_parameters None = refl
same_parameters (Some m) = refl

refs_each : (r : Renumber) (c : Class) (ms : List MethodPart) (os : List ℕ) → total (map (λ m. length (parameter_marks c m.place)) ms) ≤ length os
    → Both (λ m offsets. length offsets ≡ length m.parameter_marks) (map (λ m. written_method r (method_at c m.place)) ms) (split_by (map (λ m. length (parameter_marks c m.place)) ms) os)
refs_each r c [] os le = tt
refs_each r c (m ∷ ms) os le =
    let n : ℕ = length (parameter_marks c m.place) in
    let same : n ≡ length (map (new_marks r) (method_at c m.place).parameter_marks) = ap (λ (l : List (List Mark)). length l) (same_parameters (slice_get c.methods m.place)) ∙ sym (length-map (method_at c m.place).parameter_marks (new_marks r)) in
    (length-take-le n os (omega (arith, le)) ∙ same, refs_each r c ms (drop n os) (omega (arith, le, length-drop n os)))

pub plan_refs : (r : Renumber) (plan : Plan) (c : Class) (sets : List ℕ) (methods : List Method) → plan.class ≡ c → methods ≡ map (λ m. written_method r (method_at c m.place)) plan.methods → own_count plan + parameter_count plan ≤ length sets
    → Both (λ m offsets. length offsets ≡ length m.parameter_marks) methods (split_by (ref_counts plan) (own_offsets plan sets))
unfolding ref_counts
plan_refs r plan c sets methods same e le =
    let counts : List ℕ = map (λ m. length (parameter_marks plan.class m.place)) plan.methods in
    let enough : total counts ≤ length (own_offsets plan sets) = omega (arith, le, sum_total counts, length-take-le (parameter_count plan) (drop (own_count plan) sets) (omega (arith, le, length-drop (own_count plan) sets))) in
    subst (λ l. Both (λ m offsets. length offsets ≡ length m.parameter_marks) l (split_by counts (own_offsets plan sets))) (sym e)
    (subst (λ (x : Class). Both (λ m offsets. length offsets ≡ length m.parameter_marks) (map (λ m. written_method r (method_at x m.place)) plan.methods) (split_by counts (own_offsets plan sets))) same (refs_each r plan.class plan.methods (own_offsets plan sets) enough))
