-- What is known of the classes of a well-formed program and their plans.
use Rattle.std.proofs.Common.{◌≡◌, ◌<◌, inl, inr, ℕ, zero, suc, Bool, true, false, List, [], ◌∷◌, length, map, take, drop, refl, sym, ap, subst, ◌∙◌, Option, Some, None, ltb-true}
use Rattle.std.specs.Prelude.{slice_get, slice_index_or, ◌&&◌, ◌||◌, ◌==◌}
use Rattle.std.specs.Option.{option_map}
use Rattle.std.specs.List.{AllByRecursion, flat_map, list_all}
use Rattle.std.proofs.lemmas.Bool.{and_parts}
use Rattle.lemmas.proofs.Lists.{all_at, get_map}
use Rattle.lemmas.proofs.Options.{some_same}
use Rattle.lemmas.proofs.Bools.{clash}
use Rattle.program_model.specs.declared.pass.Renumber.{Renumber}
use Rattle.program_model.specs.declared.pools.MethodName.{MethodName}
use Rattle.program_model.specs.declared.value.EncValue.{EncValue}
use Rattle.program_model.specs.declared.program.Field.{Field}
use Rattle.program_model.specs.declared.program.Method.{Method}
use Rattle.program_model.specs.declared.program.Class.{Class}
use Rattle.program_model.specs.declared.program.Program.{Program}
use Rattle.program_model.specs.Texts.{has_type, has_string, string_text, first_unit}
use Rattle.program_model.specs.ValueRules.{marks_fit}
use Rattle.program_model.specs.MemberRules.{is_static, is_private, is_direct, name_of_method, class_of_field, is_class_number, first_value_fits, field_fits, source_fits}
use Rattle.dex_pools.specs.declared.interner.Interner.{Interner}
use Rattle.dex_pools.specs.declared.used.Named.TheVariants as named
use Rattle.dex_pools.specs.Interned.{IsInterned}
use Rattle.dex_pools.specs.Numbering.{used_in, string_key, method_key}
use Rattle.dex_pools.specs.Used.{class_names, kind_names, source_names}
use Rattle.dex_write.specs.declared.ordered.MethodPart.{MethodPart}
use Rattle.dex_write.specs.Plans.{Plan, Numbered, spot_of}
use Rattle.dex_write.specs.Tables.{source_word}
use Rattle.dex_defs.specs.ClassDefs.{IsSource}
use Rattle.dex_defs.specs.Written.{new_string, new_type, new_method, written_method_name, new_value, written_field, written_method, written_by}
use Rattle.write_laws.specs.Used.{IsUsed, IsShort, UsesMethod}
use Rattle.write_laws.proofs.Closed.{used_closed}
use Rattle.write_laws.proofs.NamesOrdering.{AsMany, used_marked}
use Rattle.write_laws.proofs.Ranges.{ranges_kept}
use Rattle.write_laws.proofs.Carried.{carried}
use Rattle.write_laws.specs.Fits.{OrdersIn}
use Rattle.write_laws.proofs.Ordering.{orders_in}
use Rattle.written_file.proofs.Fit.{FitsClass}
use Rattle.written_file.proofs.In.{In, in_left, in_right, in_got}
use Rattle.written_file.proofs.Grouped.{Spot}
use Rattle.written_file.proofs.Plans.{class_used}
use Rattle.written_file.proofs.Members.{field_or, field_at, method_or, method_at, method_used}
use Rattle.written_file.proofs.KindFields.{HasPlan}
use Rattle.written_code.proofs.Class.{Facts}

-- ---- texts

abbrev text_or : Option (List ℕ) → List ℕ
text_or None = []
text_or (Some t) = t

index_text : (xs : List (List ℕ)) (n : ℕ) → slice_index_or xs n [] ≡ text_or (slice_get xs n)
index_text [] n = refl
index_text (x ∷ xs) zero = refl
index_text (x ∷ xs) (suc n) = index_text xs n

kept_text : (o : Option (List ℕ)) → text_or (option_map (λ text. text) o) ≡ text_or o
kept_text None = refl
kept_text (Some t) = refl

all_joined : {X : Type 0} (P : X → Type 0) (n : ℕ) (xs : List X) → AllByRecursion P (take n xs) → AllByRecursion P (drop n xs) → AllByRecursion P xs
all_joined P zero xs a b = b
all_joined P (suc n) [] a b = tt
all_joined P (suc n) (x ∷ xs) a b = (a.0, all_joined P n xs a.1 b)

module _ (p : Program) (i : Interner) (few : IsShort p) (h : IsInterned p i) where
  abbrev q : Program
  q = written_by i p

  abbrev r : Renumber
  r = i.numbers

  many : AsMany p (used_in p)
  many = used_marked p

  orders : OrdersIn p i
  orders = orders_in p i h

  pub string_kept : (n : ℕ) → IsUsed (used_in p) (named.Text n) → string_text q (new_string r n) ≡ string_text p n
  string_kept n used =
      let there : slice_get q.strings (new_string r n) ≡ option_map (λ text. text) (slice_get p.strings n) = carried (λ (text : List ℕ). text) p.strings (used_in p).strings (string_key p.strings) i.order.strings.items r.strings.items h.strings orders.strings many.strings few.strings n used in
      index_text q.strings (new_string r n) ∙ (ap text_or there ∙ (kept_text (slice_get p.strings n) ∙ sym (index_text p.strings n)))

  name_kept : (n : ℕ) → IsUsed (used_in p) (named.Method n) → name_of_method q (slice_get q.methods (new_method r n)) ≡ name_of_method p (slice_get p.methods n)
  name_kept n used = by (slice_get p.methods n) refl
    where
      there : slice_get q.methods (new_method r n) ≡ option_map (written_method_name r) (slice_get p.methods n)
      there = carried (written_method_name r) p.methods (used_in p).methods (method_key r.strings.items r.types.items r.protos.items p.methods) i.order.methods.items r.methods.items h.methods orders.methods many.methods few.methods n used

      by : (o : Option MethodName) → slice_get p.methods n ≡ o → name_of_method q (slice_get q.methods (new_method r n)) ≡ name_of_method p (slice_get p.methods n)
      by None e = ap (λ (o : Option MethodName). name_of_method q o) (there ∙ ap (option_map (written_method_name r)) e) ∙ sym (ap (λ (o : Option MethodName). name_of_method p o) e)
      by (Some x) e =
          let own : UsesMethod (used_in p) x = (used_closed p few).methods n x e used in
          ap (λ (o : Option MethodName). name_of_method q o) (there ∙ ap (option_map (written_method_name r)) e) ∙ (string_kept x.name own.name ∙ sym (ap (λ (o : Option MethodName). name_of_method p o) e))

  -- a method stays direct
  direct_kept : (m : Method) → IsUsed (used_in p) (named.Method m.name) → is_direct q (written_method r m) ≡ is_direct p m
  unfolding is_direct
  direct_kept m used = ap (λ (t : List ℕ). (is_static m.flags || is_private m.flags) || first_unit t == 60) (name_kept m.name used)

  -- ---- the numbers of a class

  pub kind_low : (n : ℕ) → has_type p n ≡ true → IsUsed (used_in p) (named.Kind n) → new_type r n < length q.types
  kind_low n e used = ranges_kept p i few h (named.Kind n) used (ltb-true n (length p.types) e)

  text_low : (n : ℕ) → has_string p n ≡ true → IsUsed (used_in p) (named.Text n) → new_string r n < length q.strings
  text_low n e used = ranges_kept p i few h (named.Text n) used (ltb-true n (length p.strings) e)

  name_in : (c : Class) → In (named.Kind c.name) (class_names c)
  unfolding class_names
  name_in c = inl refl

  above_in : (c : Class) → In (named.Kind c.superclass) (class_names c)
  unfolding class_names
  above_in c = inr (inl refl)

  source_in : (c : Class) (n : ℕ) → c.source ≡ Some n → In (named.Text n) (class_names c)
  unfolding class_names
  source_in c n e = inr (inr (in_right (named.Text n) (flat_map kind_names c.interfaces) _ (in_left (named.Text n) (source_names c.source) _ (subst (λ o. In (named.Text n) (source_names o)) (sym e) (inl refl)))))

  source_low : (k : ℕ) (c : Class) → slice_get p.classes k ≡ Some c → source_fits p c.source ≡ true → IsSource (length q.strings) (source_word r c.source) (option_map (new_string r) c.source)
  source_low k c is fits = by c.source refl
    where
      by : (o : Option ℕ) → c.source ≡ o → IsSource (length q.strings) (source_word r c.source) (option_map (new_string r) c.source)
      by None e = subst (λ o. IsSource (length q.strings) (source_word r o) (option_map (new_string r) o)) (sym e) refl
      by (Some n) e = subst (λ o. IsSource (length q.strings) (source_word r o) (option_map (new_string r) o)) (sym e) (refl, text_low n (subst (λ o. source_fits p o ≡ true) e fits) (class_used p k c is (named.Text n) (source_in c n e)))

  -- ---- first values of instance fields

  first_none : (class : ℕ) (f : Field) → field_fits p class f ≡ true → is_static f.flags ≡ false → f.first ≡ None
  unfolding field_fits
  first_none class f fits group = by f.first refl
    where
      own : first_value_fits p f.flags f.name f.first ≡ true
      own = (and_parts (first_value_fits p f.flags f.name f.first) (marks_fit p f.marks) (and_parts (is_class_number (class_of_field (slice_get p.fields f.name)) class) (first_value_fits p f.flags f.name f.first && marks_fit p f.marks) fits).1).0

      both : (t u : Bool) → (t && u) ≡ true → t ≡ true
      both true u e = refl
      both false u e = absurd cc

      by : (o : Option EncValue) → f.first ≡ o → f.first ≡ None
      by None e = e
      by (Some v) e = clash (is_static f.flags) (both (is_static f.flags) _ (subst (λ o. first_value_fits p f.flags f.name o ≡ true) e own)) group

  firsts_none : (c : Class) (fs : List Numbered) → list_all (field_fits p c.name) c.fields ≡ true → AllByRecursion (Spot (λ f. f.name) (λ f. is_static f.flags) (map (written_field r) c.fields) false) fs → AllByRecursion (λ f. (field_at r c f.1).first ≡ None) fs
  firsts_none c [] fits spots = tt
  firsts_none c (f ∷ fs) fits spots = (one f spots.0, firsts_none c fs fits spots.1)
    where
      one : (f : Numbered) → Spot (λ f. f.name) (λ f. is_static f.flags) (map (written_field r) c.fields) false f → (field_at r c f.1).first ≡ None
      one f s = by (slice_get c.fields f.1) refl
        where
          got : slice_get (map (written_field r) c.fields) f.1 ≡ option_map (written_field r) (slice_get c.fields f.1)
          got = get_map (written_field r) c.fields f.1

          none_some : (x : Field) → ◌≡◌ {A = Option Field} None (Some x) → ⊥
          none_some x e = cc

          by : (o : Option Field) → slice_get c.fields f.1 ≡ o → (field_at r c f.1).first ≡ None
          by None e = absurd (none_some s.x (sym (got ∙ ap (option_map (written_field r)) e) ∙ s.is))
          by (Some g) e =
              let same : written_field r g ≡ s.x = some_same (written_field r g) s.x (sym (got ∙ ap (option_map (written_field r)) e) ∙ s.is) in
              let group : is_static g.flags ≡ false = ap (λ (y : Field). is_static y.flags) same ∙ s.group in
              ap (λ (o : Option Field). (field_or o).first) (got ∙ ap (option_map (written_field r)) e) ∙ ap (option_map (new_value r)) (first_none c.name g (all_at (field_fits p c.name) c.fields f.1 g fits e) group)

  directs_kept : (k : ℕ) (c : Class) (wanted : Bool) (ms : List MethodPart) → slice_get p.classes k ≡ Some c → AllByRecursion (λ m. Spot (λ x. new_method r x.name) (λ x. is_direct p x) c.methods wanted (spot_of m)) ms
      → AllByRecursion (λ m. is_direct q (written_method r (method_at c m.place)) ≡ is_direct p (method_at c m.place)) ms
  directs_kept k c wanted [] is spots = tt
  directs_kept k c wanted (m ∷ ms) is spots =
      let same : method_at c m.place ≡ spots.0.x = ap (λ (o : Option Method). method_or o) spots.0.is in
      let used : IsUsed (used_in p) (named.Method spots.0.x.name) = method_used p k c spots.0.x is (in_got c.methods m.place spots.0.x spots.0.is) in
      (subst (λ y. is_direct q (written_method r y) ≡ is_direct p y) (sym same) (direct_kept spots.0.x used), directs_kept k c wanted ms is spots.1)

  module _ (fits : (k : ℕ) (c : Class) → slice_get p.classes k ≡ Some c → FitsClass p c) where
    pub facts_of : (plan : Plan) → HasPlan p i few h fits plan → Facts p q r plan.class plan
    facts_of plan x =
        let c : Class = x.c in
        let fit : FitsClass p c = fits x.k c x.is_class in
        let above = and_parts (has_type p c.superclass) (list_all (has_type p) c.interfaces) fit.above in
        subst (λ y. Facts p q r y plan) (sym x.planned.class) (record {
          own = x.planned.own;
          fields = x.planned.fields;
          methods = x.planned.methods;
          static_spots = x.planned.static_spots;
          instance_spots = x.planned.instance_spots;
          direct_spots = x.planned.direct_spots;
          virtual_spots = x.planned.virtual_spots;
          direct = all_joined (λ m. is_direct q (written_method r (method_at c m.place)) ≡ is_direct p (method_at c m.place)) plan.directs plan.methods (directs_kept x.k c true (take plan.directs plan.methods) x.is_class x.planned.direct_spots) (directs_kept x.k c false (drop plan.directs plan.methods) x.is_class x.planned.virtual_spots);
          none_first = firsts_none c (drop plan.statics plan.fields) fit.fields x.planned.instance_spots;
          name = kind_low c.name fit.name (class_used p x.k c x.is_class (named.Kind c.name) (name_in c));
          above = kind_low c.superclass above.0 (class_used p x.k c x.is_class (named.Kind c.superclass) (above_in c));
          source = source_low x.k c x.is_class fit.source;
        })
