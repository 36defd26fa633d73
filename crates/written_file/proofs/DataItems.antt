-- The class data of each class that is written is spelled where its text stands.
use Rattle.std.proofs.Common.{◌≡◌, ◌≤◌, ◌<◌, ◌+◌, ◌^◌, ℕ, zero, suc, Bool, true, false, List, [], ◌∷◌, ◌++◌, length, map, take, drop, refl, sym, ap, subst, ◌∙◌, arith, length-append, Some}
use Rattle.std.specs.Prelude.{nat_eq, slice_get}
use Rattle.std.specs.List.{AllByRecursion}
use Rattle.std.proofs.lemmas.Bool.{eqb-true}
use Rattle.std.proofs.lemmas.List.{length-map}
use Rattle.lemmas.proofs.Options.{before_map}
use Rattle.lemmas.proofs.Lists.{get_map}
use Rattle.dex_base.specs.Leb.{EndsLeb, uleb_text}
use Rattle.dex_base.proofs.Written.{uleb_spelled}
use Rattle.code_write.specs.Pairs.{Numbered}
use Rattle.dex_pools.specs.declared.interner.Interner.{Interner}
use Rattle.dex_pools.specs.declared.used.Named.TheVariants as named
use Rattle.dex_pools.specs.Interned.{IsInterned}
use Rattle.program_model.specs.declared.pass.Renumber.{Renumber}
use Rattle.program_model.specs.declared.value.EncValue.{EncValue}
use Rattle.program_model.specs.declared.program.Field.{Field}
use Rattle.program_model.specs.declared.program.Method.{Method}
use Rattle.program_model.specs.declared.program.Class.{Class}
use Rattle.program_model.specs.declared.program.Program.{Program}
use Rattle.program_model.specs.MemberRules.{is_static, is_direct, field_fits, method_fits}
use Rattle.dex_write.specs.declared.ordered.MethodPart.{MethodPart}
use Rattle.dex_write.specs.declared.tables.ClassOffsets.{ClassOffsets}
use Rattle.dex_write.specs.Plans.{Plan, flags_in, method_flags_in, field_flags, method_flags, spot_of, ordered_fields, ordered_methods}
use Rattle.dex_write.specs.Codes.{code_behind, codes_behind, lines_behind, parts_of}
use Rattle.dex_write.specs.Sets.{behind_class}
use Rattle.dex_defs.specs.Here.{Here}
use Rattle.dex_defs.specs.Arranged.{Both}
use Rattle.dex_defs.specs.ClassData.{Lists, no_lists, IsClassDataOf}
use Rattle.dex_defs.specs.Texts.{fields_text, methods_text, class_data_text, member_count, data_text}
use Rattle.dex_defs.specs.Written.{new_field, new_method, written_field, written_by}
use Rattle.write_laws.specs.Used.{IsShort}
use Rattle.write_laws.proofs.Ranges.{ranges_kept}
use Rattle.write_laws.specs.Listing.{field_entry, method_entries, lists_in}
use Rattle.write_laws.specs.Placing.{code_offsets}
use Rattle.write_laws.proofs.Numbers.{Few}
use Rattle.write_laws.proofs.Members.{Climbs, Codeless, FitsLists, data_stands}
use Rattle.written_file.specs.Widths.{FieldFits, MethodFits, ClassFits, HasWidths}
use Rattle.written_file.proofs.Fit.{FitsClass}
use Rattle.written_file.proofs.In.{In, in_got, all_in}
use Rattle.written_file.specs.Parts.{class_parts}
use Rattle.written_file.proofs.Sorting.{Above, Rises, order_rises}
use Rattle.written_file.proofs.Grouped.{Spot}
use Rattle.written_file.proofs.Members.{field_short, method_short, all_of_list, field_used, method_used}
use Rattle.written_file.proofs.Small.{plan_fields_few, plan_methods_few}
use Rattle.written_file.proofs.Standing.{Stands, Unplaced, Placed}
use Rattle.written_file.proofs.Directories.{FewMembers}
use Rattle.written_file.proofs.KindFields.{HasPlan}

-- ---- a text that is not empty

some_leb : (t : List ℕ) → EndsLeb t → 0 < length t
some_leb [] h = absurd h
some_leb (b ∷ bs) h = omega arith

pub some_uleb : (n : ℕ) → n < 2 ^ 32 → 0 < length (uleb_text n)
some_uleb n lt = some_leb (uleb_text n) (uleb_spelled n lt).is.ends

nothing_in : {X : Type 0} (xs : List X) → length xs ≡ 0 → xs ≡ []
nothing_in [] e = refl
nothing_in (x ∷ xs) e = absurd (omega (arith, e))

empty_lists : (l : Lists) → member_count l ≡ 0 → l ≡ no_lists
empty_lists l e =
    let statics_path : l.statics ≡ [] = nothing_in l.statics (omega (arith, e)) in
    let instances_path : l.instances ≡ [] = nothing_in l.instances (omega (arith, e)) in
    let directs_path : l.directs ≡ [] = nothing_in l.directs (omega (arith, e)) in
    let virtuals_path : l.virtuals ≡ [] = nothing_in l.virtuals (omega (arith, e)) in
    λ k. record { statics = statics_path k; instances = instances_path k; directs = directs_path k; virtuals = virtuals_path k }

data_long : (l : Lists) → FitsLists l → 0 < length (class_data_text l)
data_long l fit =
    let first : List ℕ = uleb_text (length l.statics) in
    let rest : List ℕ = uleb_text (length l.instances) ++ (uleb_text (length l.directs) ++ (uleb_text (length l.virtuals) ++ [])) in
    omega (arith, some_uleb (length l.statics) fit.few_statics, length-append first rest, length-append (first ++ rest) (fields_text 0 l.statics ++ (fields_text 0 l.instances ++ (methods_text 0 l.directs ++ methods_text 0 l.virtuals))))

data_is : (bytes : List ℕ) (offset : ℕ) (l : Lists) → FitsLists l → Stands bytes offset (data_text l) → IsClassDataOf bytes offset l
data_is bytes offset l fit s = by_count (nat_eq (member_count l) 0) refl offset s
  where
    by_count : (t : Bool) → nat_eq (member_count l) 0 ≡ t → (o : ℕ) → Stands bytes o (data_text l) → IsClassDataOf bytes o l
    by_count true t o (Unplaced a e) = subst (λ n. IsClassDataOf bytes n l) (sym a) (empty_lists l (eqb-true (member_count l) 0 t))
    by_count true t o (Placed a lt h) =
        let none : data_text l ≡ [] = rw t refl in
        let zeros : length (data_text l) ≡ 0 = ap (λ (x : List ℕ). length x) none in
        absurd (omega (arith, lt, zeros))
    by_count false t o (Unplaced a e) =
        let whole : data_text l ≡ class_data_text l = rw t refl in
        let zeros : length (class_data_text l) ≡ 0 = ap (λ (x : List ℕ). length x) (sym whole ∙ e) in
        absurd (omega (arith, zeros, data_long l fit))
    by_count false t zero (Placed a lt h) = absurd (omega (arith, a))
    by_count false t (suc k) (Placed a lt h) =
        let whole : data_text l ≡ class_data_text l = rw t refl in
        data_stands bytes (suc k) l fit (subst (λ x. Here bytes (suc k) x) whole h)

-- ---- numbers that climb

field_climbs : (c : Class) (before : ℕ) (fs : List Numbered) → Above before fs → Rises fs → AllByRecursion (λ a. a.0 < 2 ^ 32) fs → AllByRecursion (λ a. field_flags c a.1 < 2 ^ 32) fs → Climbs before (map (field_entry c) fs)
field_climbs c before [] above rises few flags = tt
field_climbs c before (f ∷ fs) above rises few flags = (above.0, few.0, flags.0, omega arith, field_climbs c f.0 fs rises.0 rises.1 few.1 flags.1)

field_codeless : (c : Class) (fs : List Numbered) → Codeless (map (field_entry c) fs)
field_codeless c [] = tt
field_codeless c (f ∷ fs) = (refl, field_codeless c fs)

method_climbs : (c : Class) (before at : ℕ) (ms : List MethodPart) → Above before (map spot_of ms) → Rises (map spot_of ms) → AllByRecursion (λ m. m.number < 2 ^ 32) ms → AllByRecursion (λ m. method_flags c m.place < 2 ^ 32) ms → Few (code_offsets at ms) → Climbs before (method_entries c at ms)
method_climbs c before at [] above rises few flags codes = tt
method_climbs c before at (m ∷ ms) above rises few flags codes = (above.0, few.0, flags.0, codes.0, method_climbs c m.number (code_behind at m) ms rises.0 rises.1 few.1 flags.1 codes.1)

above_zero : (xs : List Numbered) → Above 0 xs
above_zero [] = tt
above_zero (x ∷ xs) = (omega arith, above_zero xs)

fields_rise : (r : Renumber) (c : Class) (wanted : Bool) → Rises (ordered_fields r c wanted)
unfolding ordered_fields
fields_rise r c wanted = order_rises _

methods_rise : (r : Renumber) (p : Program) (c : Class) (wanted : Bool) → Rises (ordered_methods r p c wanted)
unfolding ordered_methods
methods_rise r p c wanted = order_rises _

few_split : (at n : ℕ) (ms : List MethodPart) → Few (code_offsets at ms) → Few (code_offsets at (take n ms)) × Few (code_offsets (codes_behind at (take n ms)) (drop n ms))
few_split at zero ms f = (tt, f)
few_split at (suc n) [] f = (tt, tt)
few_split at (suc n) (m ∷ ms) f = let more = few_split (code_behind at m) n ms f.1 in ((f.0, more.0), more.1)

few_both : (at : ℕ) (ms ns : List MethodPart) → Few (code_offsets at (ms ++ ns)) → Few (code_offsets at ms) × Few (code_offsets (codes_behind at ms) ns)
few_both at [] ns f = (tt, f)
few_both at (m ∷ ms) ns f = let more = few_both (code_behind at m) ms ns f.1 in ((f.0, more.0), more.1)

taken_few : {X : Type 0} (n : ℕ) (xs : List X) → length (take n xs) ≤ length xs
taken_few zero xs = omega arith
taken_few (suc n) [] = omega arith
taken_few (suc n) (x ∷ xs) = omega (arith, taken_few n xs)

dropped_few : {X : Type 0} (n : ℕ) (xs : List X) → length (drop n xs) ≤ length xs
dropped_few zero xs = omega arith
dropped_few (suc n) [] = omega arith
dropped_few (suc n) (x ∷ xs) = omega (arith, dropped_few n xs)

entries_long : (c : Class) (at : ℕ) (ms : List MethodPart) → length (method_entries c at ms) ≡ length ms
entries_long c at [] = refl
entries_long c at (m ∷ ms) = ap suc (entries_long c (code_behind at m) ms)

module _ (p : Program) (i : Interner) (few : IsShort p) (h : IsInterned p i) (fits : (k : ℕ) (c : Class) → slice_get p.classes k ≡ Some c → FitsClass p c) (few_fields : length (written_by i p).fields < 2 ^ 32) (few_methods : length (written_by i p).methods < 2 ^ 32) (widths : HasWidths p) where
  -- numbers and flags of fields
  fields_number : (k : ℕ) (c : Class) → slice_get p.classes k ≡ Some c → (wanted : Bool) (fs : List Numbered) → AllByRecursion (Spot (λ f. f.name) (λ f. is_static f.flags) (map (written_field i.numbers) c.fields) wanted) fs → AllByRecursion (λ a. a.0 < 2 ^ 32) fs × AllByRecursion (λ a. field_flags c a.1 < 2 ^ 32) fs
  fields_number k c e wanted [] s = (tt, tt)
  fields_number k c e wanted (a ∷ fs) s =
      let old = before_map (written_field i.numbers) (slice_get c.fields a.1) s.0.x (sym (get_map (written_field i.numbers) c.fields a.1) ∙ s.0.is) in
      let there : In old.0 c.fields = in_got c.fields a.1 old.0 old.1.0 in
      let low : new_field i.numbers old.0.name < length (written_by i p).fields = ranges_kept p i few h (named.Field old.0.name) (field_used p k c old.0 e there) (field_short p c.name old.0 (all_of_list (field_fits p c.name) old.0 c.fields (fits k c e).fields there)) in
      let number : a.0 ≡ new_field i.numbers old.0.name = s.0.number ∙ ap (λ (f : Field). f.name) (sym old.1.1) in
      let own : ClassFits c = all_in ClassFits c p.classes widths.classes (in_got p.classes k c e) in
      let flags : FieldFits old.0 = all_in FieldFits old.0 c.fields own.fields there in
      let more = fields_number k c e wanted fs s.1 in
      ((omega (arith, number, low, few_fields), more.0), (subst (λ o. flags_in o < 2 ^ 32) (sym old.1.0) flags.flags, more.1))

  methods_number : (k : ℕ) (c : Class) → slice_get p.classes k ≡ Some c → (wanted : Bool) (ms : List MethodPart) → AllByRecursion (λ m. Spot (λ x. new_method i.numbers x.name) (λ x. is_direct p x) c.methods wanted (spot_of m)) ms → AllByRecursion (λ m. m.number < 2 ^ 32) ms × AllByRecursion (λ m. method_flags c m.place < 2 ^ 32) ms
  methods_number k c e wanted [] s = (tt, tt)
  methods_number k c e wanted (m ∷ ms) s =
      let there : In s.0.x c.methods = in_got c.methods m.place s.0.x s.0.is in
      let low : new_method i.numbers s.0.x.name < length (written_by i p).methods = ranges_kept p i few h (named.Method s.0.x.name) (method_used p k c s.0.x e there) (method_short p c.name s.0.x (all_of_list (method_fits p c.name) s.0.x c.methods (fits k c e).methods there)) in
      let own : ClassFits c = all_in ClassFits c p.classes widths.classes (in_got p.classes k c e) in
      let flags : MethodFits s.0.x = all_in MethodFits s.0.x c.methods own.methods there in
      let more = methods_number k c e wanted ms s.1 in
      ((omega (arith, s.0.number, low, few_methods), more.0), (subst (λ o. method_flags_in o < 2 ^ 32) (sym s.0.is) flags.flags, more.1))

  lists_fit : (plan : Plan) (at : ℕ) → HasPlan p i few h fits plan → Few (code_offsets at plan.methods) → FitsLists (lists_in plan at)
  lists_fit plan at x codes =
      let r : Renumber = i.numbers in
      let same : plan.class ≡ x.c = x.planned.class in
      let statics = fields_number x.k x.c x.is_class true (take plan.statics plan.fields) x.planned.static_spots in
      let instances = fields_number x.k x.c x.is_class false (drop plan.statics plan.fields) x.planned.instance_spots in
      let directs = methods_number x.k x.c x.is_class true (take plan.directs plan.methods) x.planned.direct_spots in
      let virtuals = methods_number x.k x.c x.is_class false (drop plan.directs plan.methods) x.planned.virtual_spots in
      let apart = few_split at plan.directs plan.methods codes in
      let few_own_fields : length plan.fields < 2 ^ 32 = omega (arith, few.fields, plan_fields_few p i few h fits plan x) in
      let few_own_methods : length plan.methods < 2 ^ 32 = omega (arith, few.methods, plan_methods_few p i few h fits plan x) in
      record {
        statics = subst (λ (y : Class). Climbs 0 (map (field_entry y) (take plan.statics plan.fields))) (sym same) (field_climbs x.c 0 (take plan.statics plan.fields) (above_zero (take plan.statics plan.fields)) (subst Rises (sym x.planned.statics) (fields_rise r x.c true)) statics.0 statics.1);
        instances = subst (λ (y : Class). Climbs 0 (map (field_entry y) (drop plan.statics plan.fields))) (sym same) (field_climbs x.c 0 (drop plan.statics plan.fields) (above_zero (drop plan.statics plan.fields)) (subst Rises (sym x.planned.instances) (fields_rise r x.c false)) instances.0 instances.1);
        directs = subst (λ (y : Class). Climbs 0 (method_entries y at (take plan.directs plan.methods))) (sym same) (method_climbs x.c 0 at (take plan.directs plan.methods) (above_zero (map spot_of (take plan.directs plan.methods))) (subst Rises (sym x.planned.directs) (methods_rise r p x.c true)) directs.0 directs.1 apart.0);
        virtuals = subst (λ (y : Class). Climbs 0 (method_entries y (codes_behind at (take plan.directs plan.methods)) (drop plan.directs plan.methods))) (sym same) (method_climbs x.c 0 (codes_behind at (take plan.directs plan.methods)) (drop plan.directs plan.methods) (above_zero (map spot_of (drop plan.directs plan.methods))) (subst Rises (sym x.planned.virtuals) (methods_rise r p x.c false)) virtuals.0 virtuals.1 apart.1);
        static_codes = field_codeless plan.class (take plan.statics plan.fields);
        instance_codes = field_codeless plan.class (drop plan.statics plan.fields);
        few_statics = omega (arith, few_own_fields, length-map (take plan.statics plan.fields) (field_entry plan.class), taken_few plan.statics plan.fields);
        few_instances = omega (arith, few_own_fields, length-map (drop plan.statics plan.fields) (field_entry plan.class), dropped_few plan.statics plan.fields);
        few_directs = omega (arith, few_own_methods, entries_long plan.class at (take plan.directs plan.methods), taken_few plan.directs plan.methods);
        few_virtuals = omega (arith, few_own_methods, entries_long plan.class (codes_behind at (take plan.directs plan.methods)) (drop plan.directs plan.methods), dropped_few plan.directs plan.methods);
      }

  -- the class data of each class
  pub all_data : (bytes : List ℕ) (offsets : ClassOffsets) (values : Plan → List EncValue) (place code_at lines_at : ℕ) (sets refs : List ℕ) (ps : List Plan) → AllByRecursion (HasPlan p i few h fits) ps → Few (code_offsets code_at (parts_of ps))
      → Both (Stands bytes) (map (λ c. c.def.data_at) (class_parts i.numbers offsets values place code_at lines_at sets refs ps)) (map (λ c. data_text c.lists) (class_parts i.numbers offsets values place code_at lines_at sets refs ps))
      → AllByRecursion (λ x. IsClassDataOf bytes x.def.data_at x.lists) (class_parts i.numbers offsets values place code_at lines_at sets refs ps)
  all_data bytes offsets values place code_at lines_at sets refs [] a f b = tt
  all_data bytes offsets values place code_at lines_at sets refs (plan ∷ ps) a f b =
      let apart = few_both code_at plan.methods (parts_of ps) f in
      (data_is bytes _ (lists_in plan code_at) (lists_fit plan code_at a.0 apart.0) b.0, all_data bytes offsets values (suc place) (codes_behind code_at plan.methods) (lines_behind lines_at plan.methods) (behind_class plan sets) (drop (length plan.methods) refs) ps a.1 apart.1 b.1)

  firsts_few : (xs : List Numbered) → AllByRecursion (λ a. a.0 < 2 ^ 32) xs → Few (map (λ a. a.0) xs)
  firsts_few [] a = tt
  firsts_few (x ∷ xs) a = (a.0, firsts_few xs a.1)

  numbers_few : (ms : List MethodPart) → AllByRecursion (λ m. m.number < 2 ^ 32) ms → Few (map (λ m. m.number) ms)
  numbers_few [] a = tt
  numbers_few (m ∷ ms) a = (a.0, numbers_few ms a.1)

  all_joined : {X : Type 0} (P : X → Type 0) (n : ℕ) (xs : List X) → AllByRecursion P (take n xs) → AllByRecursion P (drop n xs) → AllByRecursion P xs
  all_joined P zero xs a b = b
  all_joined P (suc n) [] a b = tt
  all_joined P (suc n) (x ∷ xs) a b = (a.0, all_joined P n xs a.1 b)

  -- the numbers of the members of each class fit
  pub members_few : (plans : List Plan) → AllByRecursion (HasPlan p i few h fits) plans → AllByRecursion FewMembers plans
  members_few [] a = tt
  members_few (plan ∷ plans) a =
      let x : HasPlan p i few h fits plan = a.0 in
      let statics = fields_number x.k x.c x.is_class true (take plan.statics plan.fields) x.planned.static_spots in
      let instances = fields_number x.k x.c x.is_class false (drop plan.statics plan.fields) x.planned.instance_spots in
      let directs = methods_number x.k x.c x.is_class true (take plan.directs plan.methods) x.planned.direct_spots in
      let virtuals = methods_number x.k x.c x.is_class false (drop plan.directs plan.methods) x.planned.virtual_spots in (
        record {
          fields = firsts_few plan.fields (all_joined (λ a. a.0 < 2 ^ 32) plan.statics plan.fields statics.0 instances.0);
          methods = numbers_few plan.methods (all_joined (λ m. m.number < 2 ^ 32) plan.directs plan.methods directs.0 virtuals.0);
          few_fields = omega (arith, few.fields, plan_fields_few p i few h fits plan x);
          few_methods = omega (arith, few.methods, plan_methods_few p i few h fits plan x);
        },
        members_few plans a.1,
      )
