-- What marks leave of a well-formed program is well-formed.
use Rattle.std.proofs.Common.{◌≡◌, ℕ, ◌≤◌, Bool, true, false, true≢false, List, [], ◌∷◌, length, map, refl, sym, ◌∙◌, subst, arith, ltb-true, lt-ltb, leb-true, le-leb}
use Rattle.std.specs.Prelude.{◌&&◌, filter, sum_by, nat_lt, nat_le}
use Rattle.std.specs.List.{list_all}
use Rattle.std.proofs.lemmas.Bool.{and_parts, and_from}
use Rattle.std.proofs.lemmas.List.{length-map}
use Rattle.std.proofs.lemmas.List.Sums.{sum_by-cons}
use Rattle.call_graph.specs.declared.live_set.LiveSet.{LiveSet}
use Rattle.program_model.specs.declared.program.Field.{Field}
use Rattle.program_model.specs.declared.program.Method.{Method}
use Rattle.program_model.specs.declared.program.Class.{Class}
use Rattle.program_model.specs.declared.program.Program.{Program}
use Rattle.program_model.specs.Neighbours.{neighbours}
use Rattle.program_model.specs.Distinct.{own_field_key, own_method_key, all_differ}
use Rattle.program_model.specs.Cells.{method_cells, class_cells, cells_of}
use Rattle.program_model.specs.Items.{field_items, method_items, class_items, items_of}
use Rattle.program_model.specs.ValueRules.{marks_fit}
use Rattle.program_model.specs.MemberRules.{in_groups, is_static, is_direct, field_fits, fields_in_order, fields_fit, method_fits, methods_in_order, methods_fit, types_of_class_fit, source_fits, class_fits}
use Rattle.program_model.specs.ProgramRules.{is_well_formed}
use Rattle.program_model.proofs.Formed.{formed, well_formed, drawn_left, stand_kept}
use Rattle.reach.specs.Kept.{is_marked, kept_in, kept_of, live_classes}
use Rattle.reach.proofs.Sizes.{filter_shorter}
use Rattle.reach.proofs.Sublists.{all_left, sum_left, order_left, differ_left, firsts_left}
use Rattle.reach.proofs.Tables.{tables_kept, class_same}

-- ---- orders go through

groups_through : (a b c x y z : Bool) → (x ≡ true → y ≡ true → z ≡ true) → in_groups a b x ≡ true → in_groups b c y ≡ true → in_groups a c z ≡ true
groups_through true true true x y z h k l = h k l
groups_through true true false x y z h k l = refl
groups_through true false true x y z h k l = absurd (true≢false (sym l))
groups_through true false false x y z h k l = refl
groups_through false true c x y z h k l = absurd (true≢false (sym k))
groups_through false false true x y z h k l = absurd (true≢false (sym l))
groups_through false false false x y z h k l = h k l

less_through : (a b c : ℕ) → nat_lt a b ≡ true → nat_lt b c ≡ true → nat_lt a c ≡ true
less_through a b c h k = lt-ltb a c (omega (arith, ltb-true a b h, ltb-true b c k))

fields_through : (a b c : Field) → fields_in_order (a, b) ≡ true → fields_in_order (b, c) ≡ true → fields_in_order (a, c) ≡ true
fields_through a b c h k = groups_through (is_static a.flags) (is_static b.flags) (is_static c.flags) _ _ _ (less_through a.name b.name c.name) h k

methods_through : (p : Program) (a b c : Method) → methods_in_order p (a, b) ≡ true → methods_in_order p (b, c) ≡ true → methods_in_order p (a, c) ≡ true
methods_through p a b c h k = groups_through (is_direct p a) (is_direct p b) (is_direct p c) _ _ _ (less_through a.name b.name c.name) h k

-- ---- members

fields_left : (t : Field → Bool) (p : Program) (class : ℕ) (fs : List Field) → fields_fit p class fs ≡ true → fields_fit p class (filter t fs) ≡ true
unfolding fields_fit
fields_left t p class fs h =
    let all = and_parts (list_all (field_fits p class) fs) (list_all fields_in_order (neighbours fs) && all_differ own_field_key fs) h in
    let order = and_parts (list_all fields_in_order (neighbours fs)) (all_differ own_field_key fs) all.1 in
    and_from _ _ (all_left t (field_fits p class) fs all.0) (and_from _ _ (order_left t fields_in_order fields_through fs order.0) (differ_left t own_field_key fs order.1))

methods_left : (t : Method → Bool) (p : Program) (class : ℕ) (ms : List Method) → methods_fit p class ms ≡ true → methods_fit p class (filter t ms) ≡ true
unfolding methods_fit
methods_left t p class ms h =
    let all = and_parts (list_all (method_fits p class) ms) (list_all (methods_in_order p) (neighbours ms) && all_differ own_method_key ms) h in
    let order = and_parts (list_all (methods_in_order p) (neighbours ms)) (all_differ own_method_key ms) all.1 in
    and_from _ _ (all_left t (method_fits p class) ms all.0) (and_from _ _ (order_left t (methods_in_order p) (methods_through p) ms order.0) (differ_left t own_method_key ms order.1))

at_most : (a b n : ℕ) → a ≤ b → nat_le b n ≡ true → nat_le a n ≡ true
at_most a b n le h = le-leb a n (omega (arith, le, leb-true b n h))

module _ (s : LiveSet) where
  class_left : (p : Program) (c : Class) → class_fits p c ≡ true → class_fits p (kept_in s c) ≡ true
  unfolding class_fits types_of_class_fit
  class_left p c h =
      let all = and_parts (types_of_class_fit p c && (source_fits p c.source && marks_fit p c.marks)) (fields_fit p c.name c.fields && methods_fit p c.name c.methods) h in
      let members = and_parts (fields_fit p c.name c.fields) (methods_fit p c.name c.methods) all.1 in
      and_from _ _ all.0 (and_from _ _ (fields_left (λ f. is_marked s.fields.items f.name) p c.name c.fields members.0) (methods_left (λ m. is_marked s.methods.items m.name) p c.name c.methods members.1))

  classes_left : (p : Program) (ks cs : List Class) → list_all (class_fits p) cs ≡ true → list_all (class_fits (record p { classes = ks })) (map (kept_in s) cs) ≡ true
  classes_left p ks [] h = refl
  classes_left p ks (c ∷ cs) h =
      let both = and_parts (class_fits p c) (list_all (class_fits p) cs) h in
      and_from _ _ (class_same p ks (kept_in s c) ∙ class_left p c both.0) (classes_left p ks cs both.1)

  -- ---- counts

  sum_kept : (f : Class → ℕ) → ((c : Class) → f (kept_in s c) ≤ f c) → (cs : List Class) → sum_by f (map (kept_in s) cs) ≤ sum_by f cs
  sum_kept f h [] = omega arith
  sum_kept f h (c ∷ cs) = omega (arith, h c, sum_kept f h cs, sum_by-cons f (kept_in s c) (map (kept_in s) cs), sum_by-cons f c cs)

  sum_falls : (f : Class → ℕ) → ((c : Class) → f (kept_in s c) ≤ f c) → (cs : List Class) → sum_by f (map (kept_in s) (live_classes s cs)) ≤ sum_by f cs
  sum_falls f h cs = omega (arith, sum_kept f h (live_classes s cs), sum_left (λ c. is_marked s.classes.items c.name) f cs)

  class_cells_fall : (c : Class) → class_cells (kept_in s c) ≤ class_cells c
  class_cells_fall c = sum_left (λ m. is_marked s.methods.items m.name) method_cells c.methods

  class_items_fall : (c : Class) → class_items (kept_in s c) ≤ class_items c
  unfolding class_items
  class_items_fall c = omega (
    arith,
    firsts_left (λ f. is_marked s.fields.items f.name) c.fields 0 0 0 0 (omega arith) (omega arith) (omega arith),
    sum_left (λ f. is_marked s.fields.items f.name) field_items c.fields,
    sum_left (λ m. is_marked s.methods.items m.name) method_items c.methods,
  )

  items_fall : (p : Program) → items_of (kept_of s p) ≤ items_of p
  unfolding items_of
  items_fall p = omega (arith, sum_falls class_items class_items_fall p.classes)

  classes_fall : (cs : List Class) → length (map (kept_in s) (live_classes s cs)) ≤ length cs
  classes_fall cs = omega (arith, length-map (live_classes s cs) (kept_in s), filter_shorter (λ c. is_marked s.classes.items c.name) cs)

  -- ---- the program

  pub kept_formed : (p : Program) → is_well_formed p ≡ true → is_well_formed (kept_of s p) ≡ true
  kept_formed p h =
      let f = formed p h in
      let left = live_classes s p.classes in
      well_formed (kept_of s p) (record {
        tables = tables_kept p (map (kept_in s) left) (classes_fall p.classes) f.tables;
        cells = at_most (cells_of (kept_of s p)) (cells_of p) 67108864 (sum_falls class_cells class_cells_fall p.classes) f.cells;
        items = at_most (items_of (kept_of s p)) (items_of p) 16777216 (items_fall p) f.items;
        stands = stand_kept p (kept_of s p) (drawn_left (λ c. is_marked s.classes.items c.name) (kept_in s) (λ c. record { name = refl; flags = refl; superclass = refl; interfaces = refl }) p.classes) f.stands;
        classes = classes_left p (map (kept_in s) left) left (all_left (λ c. is_marked s.classes.items c.name) (class_fits p) p.classes f.classes);
      })

  pub left_is_formed : (p q : Program) → q ≡ kept_of s p → is_well_formed p ≡ true → is_well_formed q ≡ true
  left_is_formed p q e h = subst (λ x. is_well_formed x ≡ true) (sym e) (kept_formed p h)
