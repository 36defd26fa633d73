-- A class has no more members than the tables, and its first values are written.
use Rattle.std.proofs.Common.{◌≡◌, ◌≤◌, ◌<◌, ◌^◌, ℕ, zero, suc, Bool, true, false, List, [], ◌∷◌, ◌++◌, length, map, take, drop, refl, sym, ap, subst, ◌∙◌, arith, Some}
use Rattle.std.specs.Prelude.{slice_get}
use Rattle.std.specs.List.{list_all, AllByRecursion}
use Rattle.std.proofs.lemmas.List.{length-map}
use Rattle.lemmas.proofs.Options.{before_map}
use Rattle.lemmas.proofs.Lists.{get_map}
use Rattle.dex_pools.specs.declared.interner.Interner.{Interner}
use Rattle.dex_pools.specs.Interned.{IsInterned}
use Rattle.program_model.specs.declared.pass.Renumber.{Renumber}
use Rattle.program_model.specs.declared.value.EncValue.{EncValue}
use Rattle.program_model.specs.declared.program.Field.{Field}
use Rattle.program_model.specs.declared.program.Method.{Method}
use Rattle.program_model.specs.declared.program.Class.{Class}
use Rattle.program_model.specs.declared.program.Program.{Program}
use Rattle.program_model.specs.Distinct.{own_field_key, own_method_key}
use Rattle.program_model.specs.MemberRules.{is_static, field_fits, method_fits}
use Rattle.dex_write.specs.declared.ordered.MethodPart.{MethodPart}
use Rattle.dex_write.specs.declared.tables.ClassOffsets.{ClassOffsets}
use Rattle.dex_write.specs.Plans.{Plan, Numbered}
use Rattle.dex_write.specs.Codes.{codes_behind, lines_behind}
use Rattle.dex_write.specs.Sets.{behind_class}
use Rattle.dex_write.specs.Data.{array_text}
use Rattle.dex_defs.specs.Written.{written_field, written_method, field_below, method_below, written_class}
use Rattle.dex_defs.specs.Written as written
use Rattle.dex_defs.specs.ValueTexts as texts
use Rattle.write_laws.specs.Used.{IsShort}
use Rattle.written_file.proofs.Fit.{FitsClass}
use Rattle.written_file.proofs.In.{In, all_of}
use Rattle.written_file.specs.Parts.{class_parts, first_values, parts_of_file}
use Rattle.written_file.proofs.Sorting.{Differ, news_differ}
use Rattle.written_file.proofs.Grouped.{Spot}
use Rattle.written_file.proofs.Members.{field_at, method_at, field_short, method_short, all_of_list}
use Rattle.written_file.proofs.Few.{differ_few}
use Rattle.written_file.proofs.Firsts.{AreOwn, array_same}
use Rattle.written_file.proofs.KindFields.{HasPlan}

insert_long : {X : Type 0} (below : X → X → Bool) (x : X) (ys : List X) → length (written.insert below x ys) ≡ suc (length ys)
insert_long below x [] = refl
insert_long below x (y ∷ ys) = by_test (below x y) refl (insert_long below x ys)
  where
    by_test : (t : Bool) → below x y ≡ t → length (written.insert below x ys) ≡ suc (length ys) → length (written.insert below x (y ∷ ys)) ≡ suc (suc (length ys))
    by_test true t e = rw t refl
    by_test false t e = rw t (ap suc e)

pub order_long : {X : Type 0} (below : X → X → Bool) (xs : List X) → length (written.in_order below xs) ≡ length xs
order_long below [] = refl
order_long below (x ∷ xs) = insert_long below x (written.in_order below xs) ∙ ap suc (order_long below xs)

all_mapped : {X Y : Type 0} (P : Y → Type 0) (f : X → Y) (xs : List X) → AllByRecursion (λ x. P (f x)) xs → AllByRecursion P (map f xs)
all_mapped P f [] a = tt
all_mapped P f (x ∷ xs) a = (a.0, all_mapped P f xs a.1)

pub taken_few : {X : Type 0} (n : ℕ) (xs : List X) → length (take n xs) ≤ length xs
taken_few zero xs = omega arith
taken_few (suc n) [] = omega arith
taken_few (suc n) (x ∷ xs) = omega (arith, taken_few n xs)

part_values : (r : Renumber) (offsets : ClassOffsets) (values : Plan → List EncValue) (place code_at lines_at : ℕ) (sets refs : List ℕ) (ps : List Plan) → map (λ c. texts.array_text c.values) (class_parts r offsets values place code_at lines_at sets refs ps) ≡ map (λ plan. texts.array_text (values plan)) ps
part_values r offsets values place code_at lines_at sets refs [] = refl
part_values r offsets values place code_at lines_at sets refs (p ∷ ps) = ap (λ (l : List (List ℕ)). texts.array_text (values p) ∷ l) (part_values r offsets values (suc place) (codes_behind code_at p.methods) (lines_behind lines_at p.methods) (behind_class p sets) (drop (length p.methods) refs) ps)

module _ (p : Program) (i : Interner) (few : IsShort p) (h : IsInterned p i) (fits : (k : ℕ) (c : Class) → slice_get p.classes k ≡ Some c → FitsClass p c) where
  fields_few : (c : Class) → FitsClass p c → length c.fields ≤ length p.fields
  fields_few c fit =
      let short : AllByRecursion (λ f. f.name < length p.fields) c.fields = all_of (λ f. f.name < length p.fields) c.fields (λ f j. field_short p c.name f (all_of_list (field_fits p c.name) f c.fields fit.fields j)) in
      let differ : Differ (map (λ f. f.name) c.fields) = news_differ (λ f. f.name) own_field_key [] c.fields fit.fields_differ (λ f g a b e. ap (λ (n : ℕ). n ∷ []) e) in
      omega (arith, length-map c.fields (λ (f : Field). f.name), differ_few (map (λ f. f.name) c.fields) (length p.fields) differ (all_mapped (λ n. n < length p.fields) (λ (f : Field). f.name) c.fields short))

  methods_few : (c : Class) → FitsClass p c → length c.methods ≤ length p.methods
  methods_few c fit =
      let short : AllByRecursion (λ m. m.name < length p.methods) c.methods = all_of (λ m. m.name < length p.methods) c.methods (λ m j. method_short p c.name m (all_of_list (method_fits p c.name) m c.methods fit.methods j)) in
      let differ : Differ (map (λ m. m.name) c.methods) = news_differ (λ m. m.name) own_method_key [] c.methods fit.methods_differ (λ f g a b e. ap (λ (n : ℕ). n ∷ []) e) in
      omega (arith, length-map c.methods (λ (m : Method). m.name), differ_few (map (λ m. m.name) c.methods) (length p.methods) differ (all_mapped (λ n. n < length p.methods) (λ (m : Method). m.name) c.methods short))

  pub plan_fields_few : (plan : Plan) → HasPlan p i few h fits plan → length plan.fields ≤ length p.fields
  plan_fields_few plan x =
      let same : length (written_class i.numbers p x.c).fields ≡ length plan.fields = ap (λ (l : List Field). length l) x.planned.fields ∙ length-map plan.fields (λ (a : Numbered). field_at i.numbers x.c a.1) in
      let long : length (written_class i.numbers p x.c).fields ≡ length x.c.fields = order_long field_below (map (written_field i.numbers) x.c.fields) ∙ length-map x.c.fields (written_field i.numbers) in
      omega (arith, same, long, fields_few x.c (fits x.k x.c x.is_class))

  pub plan_methods_few : (plan : Plan) → HasPlan p i few h fits plan → length plan.methods ≤ length p.methods
  plan_methods_few plan x =
      let same : length (written_class i.numbers p x.c).methods ≡ length plan.methods = ap (λ (l : List Method). length l) x.planned.methods ∙ length-map plan.methods (λ (m : MethodPart). written_method i.numbers (method_at x.c m.place)) in
      let long : length (written_class i.numbers p x.c).methods ≡ length x.c.methods = length-map (written.in_order (method_below i.numbers p) x.c.methods) (written_method i.numbers) ∙ order_long (method_below i.numbers p) x.c.methods in
      omega (arith, same, long, methods_few x.c (fits x.k x.c x.is_class))

  pub spots_own : (c : Class) (wanted : Bool) (fs : List Numbered) → AllByRecursion (Spot (λ f. f.name) (λ f. is_static f.flags) (map (written_field i.numbers) c.fields) wanted) fs → AllByRecursion (λ a. (f : Field) × (slice_get c.fields a.1 ≡ Some f)) fs
  spots_own c wanted [] s = tt
  spots_own c wanted (a ∷ fs) s =
      let old = before_map (written_field i.numbers) (slice_get c.fields a.1) s.0.x (sym (get_map (written_field i.numbers) c.fields a.1) ∙ s.0.is) in
      ((old.0, old.1.0), spots_own c wanted fs s.1)

  values_each : (plans : List Plan) → AllByRecursion (HasPlan p i few h fits) plans → map (λ plan. texts.array_text (first_values p i.numbers plan)) plans ≡ map (array_text p i.numbers) plans
  values_each [] a = refl
  values_each (plan ∷ plans) a =
      let x : HasPlan p i few h fits plan = a.0 in
      let fs : List Numbered = take plan.statics plan.fields in
      let own : AllByRecursion (λ b. (f : Field) × (slice_get x.c.fields b.1 ≡ Some f)) fs = spots_own x.c true fs x.planned.static_spots in
      let short : length fs < 2 ^ 32 = omega (arith, few.fields, plan_fields_few plan x, taken_few plan.statics plan.fields) in
      ap (λ (t : List ℕ). t ∷ map (λ q. texts.array_text (first_values p i.numbers q)) plans) (array_same p i.numbers x.c (fits x.k x.c x.is_class).fields plan x.planned.class own short)
      ∙ ap (λ (l : List (List ℕ)). array_text p i.numbers plan ∷ l) (values_each plans a.1)

  -- the first values of the written file are those that the classes have
  pub values_texts : (plans : List Plan) → AllByRecursion (HasPlan p i few h fits) plans → map (λ c. texts.array_text c.values) (parts_of_file p i plans) ≡ map (array_text p i.numbers) plans
  values_texts plans a = part_values i.numbers _ (first_values p i.numbers) 0 _ _ _ _ plans ∙ values_each plans a
