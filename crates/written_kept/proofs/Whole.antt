-- The whole written program: its interfaces, what room it takes, and that it is well-formed.
use Rattle.std.proofs.Common.{◌≡◌, ◌<◌, ◌≤◌, ◌+◌, inl, inr, ℕ, Bool, true, false, not, List, [], ◌∷◌, ◌++◌, length, map, refl, sym, ap, ap₂, subst, ◌∙◌, arith, Option, Some, None, ltb-true, lt-ltb}
use Rattle.std.specs.Prelude.{◌&&◌, ◌||◌, is_some, nat_eq, nat_lt, slice_get, sum_by, if◌then◌else◌}
use Rattle.std.specs.Option.{option_map}
use Rattle.std.specs.List.{AllByRecursion, list_all, list_any, flat_map}
use Rattle.std.proofs.lemmas.Bool.{eq-eqb, eqb-true, ne_eqb, le-leb, leb-true}
use Rattle.std.proofs.lemmas.List.Sums.{sum_by-cons}
use Rattle.lemmas.proofs.Bools.{and_both, and_left, and_right, clash, none_or, not_true, not_of_false, untrue}
use Rattle.lemmas.proofs.Lists.{all_at, any_at, map_long}
use Rattle.lemmas.proofs.Options.{mapped_some}
use Rattle.dex_pools.specs.declared.interner.Interner.{Interner}
use Rattle.dex_pools.specs.declared.used.Named.{Named}
use Rattle.dex_pools.specs.declared.used.Named.TheVariants as named
use Rattle.dex_pools.specs.Finds.{Ascends}
use Rattle.dex_pools.specs.Interned.{IsInterned}
use Rattle.dex_pools.specs.Numbering.{used_in, proto_key}
use Rattle.dex_pools.specs.Used.{kind_names, source_names, marks_names, field_names, method_names, class_names}
use Rattle.program_model.specs.Cells.{cells_of, class_cells, method_cells, body_cells}
use Rattle.program_model.specs.InterfaceRules.{is_plain_class, defines_so, defines_plain, stands_free, interfaces_stand_free}
use Rattle.program_model.specs.Items.{marks_items, first_items_from, field_items, fields_items, body_items, method_items, class_items, proto_items, items_of}
use Rattle.program_model.specs.MemberRules.{is_static, in_groups, field_fits, fields_in_order, class_fits}
use Rattle.program_model.specs.ProgramRules.{is_well_formed}
use Rattle.program_model.specs.Texts.{has_type, has_field}
use Rattle.program_model.specs.declared.body.Body.{Body}
use Rattle.program_model.specs.declared.pass.Renumber.{Renumber}
use Rattle.program_model.specs.declared.program.Field.{Field}
use Rattle.program_model.specs.declared.program.Method.{Method}
use Rattle.program_model.specs.declared.program.Class.{Class}
use Rattle.program_model.specs.declared.program.Program.{Program}
use Rattle.program_model.proofs.Formed.{Formed, formed, well_formed}
use Rattle.class_defs.specs.ClassGraph.{IsTwice, IsAncestor}
use Rattle.dex_defs.specs.Written.{in_order, new_type, new_field, new_marks, new_body, written_proto, written_field, written_method, written_class, field_below, method_below, class_order, entries, one_entry, written_by}
use Rattle.dex_write.specs.Order.{IsOrder}
use Rattle.write_laws.specs.Used.{IsUsed, IsShort}
use Rattle.write_laws.proofs.Ascending.{once}
use Rattle.write_laws.proofs.Carried.{entries_long}
use Rattle.write_laws.proofs.Marking.{all_left}
use Rattle.write_laws.proofs.Tabled.{short_of, is_short}
use Rattle.written_file.proofs.Fit.{Parts, parts_of, FitsClass, class_at_fits}
use Rattle.written_file.proofs.In.{In, Place, place_in, in_left, in_right, in_flat, all_of}
use Rattle.written_file.specs.Behind.{AllBehind}
use Rattle.written_file.proofs.Few.{differ_few}
use Rattle.written_file.proofs.Order.{has_append, order_is, order_behind}
use Rattle.written_file.proofs.Places.{has}
use Rattle.written_file.proofs.Plans.{behind_inside, class_used, named_name}
use Rattle.written_file.proofs.Sorting.{Differ, once_of}
use Rattle.written_kept.specs.Rising.{FieldsRise}
use Rattle.written_kept.proofs.Kept.{one_kind}
use Rattle.written_kept.proofs.Lists.{entries_all, entries_most, ordered_stays, side_ascends, sum_map, sum_same, sum_ordered}
use Rattle.written_kept.proofs.Bodies.{cells_same, items_same}
use Rattle.written_kept.proofs.Values.{marks_same, tests_in}
use Rattle.written_kept.proofs.Members.{ascends_map, field_named, field_own, class_now}
use Rattle.written_kept.proofs.Tables.{tables_now}

-- ---- lists

none_entries : {X Y : Type 0} (f : X → Y) (t : Y → Bool) (table : List X) (order : List ℕ) → ((n : ℕ) (x : X) → slice_get table n ≡ Some x → t (f x) ≡ false) → list_any t (entries f table order) ≡ false
none_entries f t table [] each = refl
none_entries {X = X} f t table (n ∷ ns) each = by (slice_get table n) refl (none_entries f t table ns each)
  where
    by : (o : Option X) → slice_get table n ≡ o → list_any t (entries f table ns) ≡ false → list_any t (entries f table (n ∷ ns)) ≡ false
    by None e rest = subst (λ (o : Option X). list_any t (one_entry f o ++ entries f table ns) ≡ false) (sym e) rest
    by (Some x) e rest = subst (λ (o : Option X). list_any t (one_entry f o ++ entries f table ns) ≡ false) (sym e) (none_or (t (f x)) (list_any t (entries f table ns)) (each n x e) rest)

none_at : {X : Type 0} (t : X → Bool) (xs : List X) (n : ℕ) (x : X) → list_any t xs ≡ false → slice_get xs n ≡ Some x → t x ≡ false
none_at t xs n x none e = untrue (t x) (λ s. clash (list_any t xs) (any_at t xs n x e s) none)

or_more : (a b c : Bool) → (b ≡ true → c ≡ true) → (a || b) ≡ true → (a || c) ≡ true
or_more true b c to e = refl
or_more false b c to e = to e

sum_same_in : {X : Type 0} (g h : X → ℕ) (xs : List X) → ((x : X) → In x xs → g x ≡ h x) → sum_by g xs ≡ sum_by h xs
sum_same_in g h [] e = refl
sum_same_in g h (x ∷ xs) e = sum_by-cons g x xs ∙ ap₂ (λ m n. m + n) (e x (inl refl)) (sum_same_in g h xs (λ y j. e y (inr j))) ∙ sym (sum_by-cons h x xs)

-- ---- an order has each class once

module _ (p : Program) where
  later : (before xs : List ℕ) (k : ℕ) → AllBehind p before xs → has k before ≡ true → has k xs ≡ false
  later before [] k b e = refl
  later before (x ∷ xs) k b e = by (nat_eq k x) refl (later (before ++ x ∷ []) xs k b.1 (has_append k before (x ∷ []) ∙ ap (λ t. t || has k (x ∷ [])) e))
    where
      by : (t : Bool) → nat_eq k x ≡ t → has k xs ≡ false → (nat_eq k x || has k xs) ≡ false
      by true s none = clash (has k before) e (subst (λ (j : ℕ). has j before ≡ false) (sym (eqb-true k x s)) b.0.once)
      by false s none = ap (λ t. t || has k xs) s ∙ none

  differs : (before xs : List ℕ) → AllBehind p before xs → Differ xs
  differs before [] b = tt
  differs before (x ∷ xs) b = (later (before ++ x ∷ []) xs x b.1 (has_append x before (x ∷ []) ∙ own (has x before) (nat_eq x x) (eq-eqb x x refl)), differs (before ++ x ∷ []) xs b.1)
    where
      own : (s t : Bool) → t ≡ true → (s || (t || false)) ≡ true
      own true t e = refl
      own false t e = ap (λ c. c || false) e

-- ---- what a class names

field_in : (c : Class) (f : Field) → In f c.fields → In (named.Field f.name) (class_names c)
unfolding class_names
field_in c f j =
    let n : Named = named.Field f.name in
    let methods = flat_map method_names c.methods in
    let fields = flat_map field_names c.fields in
    let marks = marks_names c.marks in
    let source = source_names c.source in
    inr (inr (in_right n (flat_map kind_names c.interfaces) (source ++ (marks ++ (fields ++ methods))) (in_right n source (marks ++ (fields ++ methods)) (in_right n marks (fields ++ methods) (in_left n fields methods (in_flat field_names n f c.fields j (field_named f)))))))

-- ---- what members take

module _ (r : Renumber) (p : Program) where
  code_same : (m : Method) → method_cells (written_method r m) ≡ method_cells m
  code_same m = by m.body
    where
      by : (o : Option Body) → ◌≡◌ {A = ℕ} (elim (option_map (new_body r) o) as (λ o. ℕ) [ Some b ↦ body_cells b | None ↦ 0 ]) (elim o as (λ o. ℕ) [ Some b ↦ body_cells b | None ↦ 0 ])
      by None = refl
      by (Some b) = cells_same r b

  class_cells_same : (c : Class) → class_cells (written_class r p c) ≡ class_cells c
  class_cells_same c =
      sum_map method_cells (written_method r) (in_order (method_below r p) c.methods)
      ∙ (sum_same (λ m. method_cells (written_method r m)) method_cells code_same (in_order (method_below r p) c.methods)
      ∙ sum_ordered (method_below r p) method_cells c.methods)

  method_items_same : (m : Method) → method_items (written_method r m) ≡ method_items m
  method_items_same m =
      let a : marks_items (new_marks r m.marks) ≡ marks_items m.marks = marks_same r m.marks in
      let b : length (map (new_marks r) m.parameter_marks) ≡ length m.parameter_marks = map_long (new_marks r) m.parameter_marks in
      let c : sum_by marks_items (map (new_marks r) m.parameter_marks) ≡ sum_by marks_items m.parameter_marks = sum_map marks_items (new_marks r) m.parameter_marks ∙ sum_same (λ ms. marks_items (new_marks r ms)) marks_items (marks_same r) m.parameter_marks in
      let d : body_items (option_map (new_body r) m.body) ≡ body_items m.body = items_same r m.body in
      ap₂ (λ x y. x + y) (ap₂ (λ x y. x + y) a (ap₂ (λ x y. x + y) b c)) d

  methods_same : (ms : List Method) → sum_by method_items (map (written_method r) (in_order (method_below r p) ms)) ≡ sum_by method_items ms
  methods_same ms =
      sum_map method_items (written_method r) (in_order (method_below r p) ms)
      ∙ (sum_same (λ m. method_items (written_method r m)) method_items method_items_same (in_order (method_below r p) ms)
      ∙ sum_ordered (method_below r p) method_items ms)

  firsts_same : (count place : ℕ) (fs : List Field) → first_items_from count place (map (written_field r) fs) ≡ first_items_from count place fs
  firsts_same count place [] = refl
  firsts_same count place (f ∷ fs) =
      ap (λ b. first_items_from (if b then place + 1 else count) (place + 1) (map (written_field r) fs)) (mapped_some _ f.first)
      ∙ firsts_same (if is_some f.first then place + 1 else count) (place + 1) fs

  fields_same : (fs : List Field) → Ascends field_below (map (written_field r) fs) → fields_items (in_order field_below (map (written_field r) fs)) ≡ fields_items fs
  fields_same fs a =
      ap fields_items (ordered_stays field_below (map (written_field r) fs) a)
      ∙ ap₂ (λ x y. x + y) (firsts_same 0 0 fs) (sum_map field_items (written_field r) fs ∙ sum_same (λ f. field_items (written_field r f)) field_items (λ f. marks_same r f.marks) fs)

  class_items_same : (c : Class) → Ascends field_below (map (written_field r) c.fields) → class_items (written_class r p c) ≡ class_items c
  unfolding class_items
  class_items_same c a = ap₂ (λ x y. x + y) (ap₂ (λ x y. x + y) (map_long (new_type r) c.interfaces) (marks_same r c.marks)) (ap₂ (λ x y. x + y) (fields_same c.fields a) (methods_same c.methods))

module _ (p : Program) (i : Interner) (order : List ℕ) (formed_p : is_well_formed p ≡ true) (single : (class : ℕ) → IsTwice p class → ⊥) (grounded : (class : ℕ) → IsAncestor p class class → ⊥) (h : IsInterned p i) (ordering : IsOrder p order) where
  abbrev q : Program
  q = written_by i p

  abbrev r : Renumber
  r = i.numbers

  parts : Parts p
  parts = parts_of p formed_p

  rules : Formed p
  rules = formed p formed_p

  few : IsShort p
  few = is_short p (short_of p parts.short)

  behind : AllBehind p [] (class_order p)
  behind = subst (AllBehind p []) (sym (order_is p (λ k c e. (class_at_fits p k c parts e).above) single grounded order ordering)) (order_behind p (λ k c e. (class_at_fits p k c parts e).above) single grounded order ordering)

  differ : Differ (class_order p)
  differ = differs p [] (class_order p) behind

  inside : AllByRecursion (λ n. n < length p.classes) (class_order p)
  inside = behind_inside p [] (class_order p) behind

  no_more : length q.classes ≤ length p.classes
  no_more = omega (arith, entries_long (written_class r p) p.classes (class_order p) inside, differ_few (class_order p) (length p.classes) differ inside)

  all_used : (n : ℕ) (c : Class) → slice_get p.classes n ≡ Some c → AllByRecursion (IsUsed (used_in p)) (class_names c)
  all_used n c e = all_of (IsUsed (used_in p)) (class_names c) (class_used p n c e)

  classes_fit : list_all (class_fits q) q.classes ≡ true
  classes_fit = entries_all (written_class r p) (class_fits q) p.classes (class_order p) (λ n c j e. class_now p i few h c (all_used n c e) (all_at (class_fits p) p.classes n c rules.classes e))

  -- ---- interfaces

  same_kind : (a b : ℕ) → IsUsed (used_in p) (named.Kind a) → IsUsed (used_in p) (named.Kind b) → has_type p a ≡ true → has_type p b ≡ true → nat_eq (new_type r a) (new_type r b) ≡ nat_eq a b
  same_kind a b u v s t = by (nat_eq a b) refl
    where
      by : (x : Bool) → nat_eq a b ≡ x → nat_eq (new_type r a) (new_type r b) ≡ nat_eq a b
      by true e = eq-eqb (new_type r a) (new_type r b) (ap (new_type r) (eqb-true a b e)) ∙ sym e
      by false e = ne_eqb (new_type r a) (new_type r b) (λ k. clash (nat_eq a b) (eq-eqb a b (one_kind p i few h a b u v s t k)) e) ∙ sym e

  none_plain : (k : ℕ) → IsUsed (used_in p) (named.Kind k) → has_type p k ≡ true → defines_plain p k ≡ false → defines_plain q (new_type r k) ≡ false
  none_plain k u t none = none_entries (written_class r p) (defines_so (new_type r k)) p.classes (class_order p) (λ n d e.
      ap (λ b. b && is_plain_class d) (same_kind d.name k (class_used p n d e (named.Kind d.name) (named_name d)) u (class_at_fits p n d parts e).name t)
      ∙ none_at (defines_so k) p.classes n d none e)

  kind_free : (k : ℕ) → IsUsed (used_in p) (named.Kind k) → has_type p k ≡ true → not (defines_plain p k) ≡ true → not (defines_plain q (new_type r k)) ≡ true
  kind_free k u t f = not_of_false (defines_plain q (new_type r k)) (none_plain k u t (not_true (defines_plain p k) f))

  kinds_free : (ks : List ℕ) → AllByRecursion (IsUsed (used_in p)) (flat_map kind_names ks) → list_all (has_type p) ks ≡ true → list_all (λ kind. not (defines_plain p kind)) ks ≡ true → list_all (λ kind. not (defines_plain q kind)) (map (new_type r) ks) ≡ true
  kinds_free [] u t f = refl
  kinds_free (k ∷ ks) u t f =
      and_both (not (defines_plain q (new_type r k))) (list_all (λ kind. not (defines_plain q kind)) (map (new_type r) ks))
      (kind_free k u.0 (and_left (has_type p k) (list_all (has_type p) ks) t) (and_left (not (defines_plain p k)) (list_all (λ kind. not (defines_plain p kind)) ks) f))
      (kinds_free ks u.1 (and_right (has_type p k) (list_all (has_type p) ks) t) (and_right (not (defines_plain p k)) (list_all (λ kind. not (defines_plain p kind)) ks) f))

  stands_now : (c : Class) → AllByRecursion (IsUsed (used_in p)) (class_names c) → FitsClass p c → stands_free p c ≡ true → stands_free q (written_class r p c) ≡ true
  unfolding class_names
  stands_now c u fit = or_more (is_plain_class c) (not (defines_plain p c.superclass) && list_all (λ kind. not (defines_plain p kind)) c.interfaces) (not (defines_plain q (new_type r c.superclass)) && list_all (λ kind. not (defines_plain q kind)) (map (new_type r) c.interfaces))
      (λ f.
      let a = not (defines_plain p c.superclass) in
      let b = list_all (λ kind. not (defines_plain p kind)) c.interfaces in
      and_both (not (defines_plain q (new_type r c.superclass))) (list_all (λ kind. not (defines_plain q kind)) (map (new_type r) c.interfaces))
      (kind_free c.superclass u.1.0 (and_left (has_type p c.superclass) (list_all (has_type p) c.interfaces) fit.above) (and_left a b f))
      (kinds_free c.interfaces (all_left (IsUsed (used_in p)) (flat_map kind_names c.interfaces) _ u.1.1) (and_right (has_type p c.superclass) (list_all (has_type p) c.interfaces) fit.above) (and_right a b f)))

  all_stand : interfaces_stand_free p ≡ true → interfaces_stand_free q ≡ true
  unfolding interfaces_stand_free
  all_stand s = entries_all (written_class r p) (stands_free q) p.classes (class_order p) (λ n c j e. stands_now c (all_used n c e) (class_at_fits p n c parts e) (all_at (stands_free p) p.classes n c s e))

  -- ---- limits

  cells_now : cells_of q ≤ cells_of p
  cells_now = omega (arith, entries_most (written_class r p) class_cells p.classes (class_order p) (once_of (class_order p) differ), sum_same (λ c. class_cells (written_class r p c)) class_cells (class_cells_same r p) p.classes)

  protos_now : sum_by proto_items q.protos ≤ sum_by proto_items p.protos
  protos_now = omega (
    arith,
    entries_most (written_proto r) proto_items p.protos i.order.protos.items (once (used_in p).protos (proto_key r.types.items p.protos) (length p.protos) i.order.protos.items r.protos.items h.protos),
    sum_same (λ x. proto_items (written_proto r x)) proto_items (λ x. map_long (new_type r) x.parameters) p.protos,
  )

  -- what is well-formed but for the limit of items
  pub but_items : items_of (written_by i p) ≤ 16777216 → is_well_formed (written_by i p) ≡ true
  but_items le = well_formed q (record {
    tables = tables_now p i few h no_more rules.tables;
    cells = le-leb (cells_of q) 67108864 (let most : cells_of p ≤ 67108864 = leb-true (cells_of p) 67108864 rules.cells in omega (arith, cells_now, most));
    items = le-leb (items_of q) 16777216 le;
    stands = all_stand rules.stands;
    classes = classes_fit;
  })

  -- ---- items

  module _ (rises : FieldsRise p i) where
    abbrev Own : Field → Type 0
    Own f = IsUsed (used_in p) (named.Field f.name) × (has_field p f.name ≡ true)

    pair_rises : (x y : Field) → Own x → Own y → fields_in_order (x, y) ≡ true → field_below (written_field r x) (written_field r y) ≡ true
    pair_rises x y u v t = by (is_static x.flags) (is_static y.flags) t
      where
        up : nat_lt x.name y.name ≡ true → nat_lt (new_field r x.name) (new_field r y.name) ≡ true
        up s = lt-ltb (new_field r x.name) (new_field r y.name) (rises.rise x.name y.name u.0 v.0 (ltb-true x.name y.name s) (ltb-true y.name (length p.fields) v.1))

        by : (a b : Bool) → in_groups a b (nat_lt x.name y.name) ≡ true → in_groups a b (nat_lt (new_field r x.name) (new_field r y.name)) ≡ true
        by true true s = up s
        by true false s = refl
        by false true s = clash false s refl
        by false false s = up s

    fields_rise : (n : ℕ) (c : Class) → slice_get p.classes n ≡ Some c → Ascends field_below (map (written_field r) c.fields)
    fields_rise n c e = ascends_map (written_field r) (λ x y. fields_in_order (x, y)) field_below Own pair_rises c.fields (all_of Own c.fields own) (side_ascends (λ x y. fields_in_order (x, y)) c.fields fit.field_order)
      where
        fit : FitsClass p c
        fit = class_at_fits p n c parts e

        own : (f : Field) → In f c.fields → Own f
        own f j = (class_used p n c e (named.Field f.name) (field_in c f j), field_own p i few h c.name f (tests_in (field_fits p c.name) f c.fields fit.fields j))

    classes_same : sum_by (λ c. class_items (written_class r p c)) p.classes ≡ sum_by class_items p.classes
    classes_same = sum_same_in (λ c. class_items (written_class r p c)) class_items p.classes (λ c j. let at : Place c p.classes = place_in c p.classes j in class_items_same r p c (fields_rise at.at c at.is))

    items_now : items_of q ≤ items_of p
    unfolding items_of
    items_now = omega (arith, protos_now, entries_most (written_class r p) class_items p.classes (class_order p) (once_of (class_order p) differ), classes_same)

    pub all_formed : is_well_formed (written_by i p) ≡ true
    all_formed = but_items (omega (arith, items_now, parts.items))

pub written_but_items : (p : Program) (i : Interner) (order : List ℕ) → is_well_formed p ≡ true → ((class : ℕ) → IsTwice p class → ⊥) → ((class : ℕ) → IsAncestor p class class → ⊥) → IsInterned p i → IsOrder p order → items_of (written_by i p) ≤ 16777216 → is_well_formed (written_by i p) ≡ true
written_but_items p i order formed_p single grounded h ordering le = but_items p i order formed_p single grounded h ordering le

pub formed_where_rising : (p : Program) (i : Interner) (order : List ℕ) → is_well_formed p ≡ true → ((class : ℕ) → IsTwice p class → ⊥) → ((class : ℕ) → IsAncestor p class class → ⊥) → IsInterned p i → IsOrder p order → FieldsRise p i → is_well_formed (written_by i p) ≡ true
formed_where_rising p i order formed_p single grounded h ordering rises = all_formed p i order formed_p single grounded h ordering rises
