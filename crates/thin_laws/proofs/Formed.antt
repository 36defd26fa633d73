-- A program with other code that keeps the rules of bodies is well-formed where the program is.
use Rattle.std.proofs.Common.{◌≡◌, ℕ, ◌+◌, ◌≤◌, true, List, [], ◌∷◌, length, refl, sym, ◌∙◌, subst, arith}
use Rattle.std.specs.Prelude.{◌&&◌, not, nat_le, Some, slice_get}
use Rattle.std.specs.List.{list_all}
use Rattle.std.proofs.lemmas.Bool.{leb-true, le-leb}
use Rattle.lemmas.proofs.Bools.{and_right}
use Rattle.lemmas.proofs.Numbers.{itself}
use Rattle.program_model.specs.Neighbours.{neighbours}
use Rattle.program_model.specs.Distinct.{own_method_key, all_differ}
use Rattle.program_model.specs.BodyRules.{body_fits}
use Rattle.program_model.specs.LineRules.{lines_fit}
use Rattle.program_model.specs.ValueRules.{marks_fit}
use Rattle.program_model.specs.MemberRules.{is_class_number, class_of_method, lacks_code, is_direct, frame_fits, code_fits, method_fits, methods_in_order, methods_fit, fields_fit, types_of_class_fit, source_fits, class_fits}
use Rattle.program_model.specs.Cells.{method_cells, class_cells, cells_of}
use Rattle.program_model.specs.Items.{method_items, class_items, items_of}
use Rattle.program_model.specs.ProgramRules.{is_well_formed}
use Rattle.program_model.proofs.Formed.{formed, well_formed, SameHead, Drawn, Ended, Kept, stand_kept}
use Rattle.program_model.specs.declared.body.Body.{Body}
use Rattle.program_model.specs.declared.program.Method.{Method}
use Rattle.program_model.specs.declared.program.Class.{Class}
use Rattle.program_model.specs.declared.program.Program.{Program}
use Rattle.program_laws.proofs.ChangedLists.{and_left, and_both}
use Rattle.table_rules.proofs.Tables.{tables_kept, class_same}
use Rattle.program_laws.specs.Others.{Pairwise}
use Rattle.thin_laws.specs.Recoded.{Recodes, RecodedMethod, Untouched, Recoded, RecodedClass, RecodedProgram}
use Rattle.thin_laws.proofs.Pairs.{length_pairs, all_pairs, order_pairs, sum_pairs, differ_pairs}

no_more : (a b : ℕ) → a ≡ b → a ≤ b
no_more a b e = omega (arith, e)

at_most : (a b n : ℕ) → a ≤ b → nat_le b n ≡ true → nat_le a n ≡ true
at_most a b n l h = by (leb-true b n h)
  where
    by : b ≤ n → nat_le a n ≡ true
    by m = le-leb a n (omega (arith, l, m))

more : (a b c : ℕ) → b ≤ c → a + b ≤ a + c
more a b c l = omega arith

both_less : (a b c d : ℕ) → a ≤ b → c ≤ d → a + c ≤ b + d
both_less a b c d l m = omega arith

module _ (p : Program) where
  -- ---- methods

  key_same : (m n : Method) → RecodedMethod p m n → own_method_key n ≡ own_method_key m
  key_same _ _ (Untouched m) = refl
  key_same _ _ (Recoded m old new lines e h) = refl

  cells_fall : (m n : Method) → RecodedMethod p m n → method_cells n ≤ method_cells m
  cells_fall _ _ (Untouched m) = itself (method_cells m)
  cells_fall _ _ (Recoded m old new lines e h) = subst (λ o. method_cells (record m { body = Some new; lines = lines }) ≤ method_cells (record m { body = o })) (sym e) h.cells

  items_fall : (m n : Method) → RecodedMethod p m n → method_items n ≤ method_items m
  items_fall _ _ (Untouched m) = itself (method_items m)
  items_fall _ _ (Recoded m old new lines e h) = subst (λ o. method_items (record m { body = Some new; lines = lines }) ≤ method_items (record m { body = o })) (sym e) (more _ _ _ h.items)

  direct_same : (m n : Method) → RecodedMethod p m n → is_direct p n ≡ is_direct p m
  unfolding is_direct
  direct_same _ _ (Untouched m) = refl
  direct_same _ _ (Recoded m old new lines e h) = refl

  number_same : (m n : Method) → RecodedMethod p m n → n.name ≡ m.name
  number_same _ _ (Untouched m) = refl
  number_same _ _ (Recoded m old new lines e h) = refl

  code_kept : (m : Method) (old new : Body) (lines : List ℕ) → Recodes p m old new lines → code_fits p m (Some old) ≡ true → code_fits p (record m { body = Some new; lines = lines }) (Some new) ≡ true
  unfolding frame_fits
  code_kept m old new lines h e = and_both (not (lacks_code m.flags)) (frame_fits p m new && (body_fits p new && lines_fit (length new.insns) lines))
      (and_left (not (lacks_code m.flags)) (frame_fits p m old && (body_fits p old && lines_fit (length old.insns) m.lines)) e)
      (and_both (frame_fits p m new) (body_fits p new && lines_fit (length new.insns) lines) h.frame (and_both (body_fits p new) (lines_fit (length new.insns) lines) h.body h.lined))

  method_kept : (class : ℕ) (m n : Method) → RecodedMethod p m n → method_fits p class m ≡ true → method_fits p class n ≡ true
  unfolding method_fits
  method_kept class _ _ (Untouched m) e = e
  method_kept class _ _ (Recoded m old new lines is h) e =
      let front = and_left (is_class_number (class_of_method (slice_get p.methods m.name)) class && code_fits p m m.body) (marks_fit p m.marks && list_all (marks_fit p) m.parameter_marks) e in
      let code = and_right (is_class_number (class_of_method (slice_get p.methods m.name)) class) (code_fits p m m.body) front in
      and_both (is_class_number (class_of_method (slice_get p.methods m.name)) class && code_fits p (record m { body = Some new; lines = lines }) (Some new)) (marks_fit p m.marks && list_all (marks_fit p) m.parameter_marks)
      (and_both (is_class_number (class_of_method (slice_get p.methods m.name)) class) (code_fits p (record m { body = Some new; lines = lines }) (Some new))
      (and_left (is_class_number (class_of_method (slice_get p.methods m.name)) class) (code_fits p m m.body) front)
      (code_kept m old new lines h (subst (λ o. code_fits p m o ≡ true) is code)))
      (and_right (is_class_number (class_of_method (slice_get p.methods m.name)) class && code_fits p m m.body) (marks_fit p m.marks && list_all (marks_fit p) m.parameter_marks) e)

  order_same : (a b x y : Method) → RecodedMethod p a x → RecodedMethod p b y → methods_in_order p (x, y) ≡ methods_in_order p (a, b)
  unfolding is_direct
  order_same _ _ _ _ (Untouched a) (Untouched b) = refl
  order_same _ _ _ _ (Untouched a) (Recoded b old new lines e h) = refl
  order_same _ _ _ _ (Recoded a old new lines e h) (Untouched b) = refl
  order_same _ _ _ _ (Recoded a old new lines e h) (Recoded b old' new' lines' e' h') = refl

  methods_kept : (class : ℕ) (ms ns : List Method) → Pairwise (RecodedMethod p) ms ns → methods_fit p class ms ≡ true → methods_fit p class ns ≡ true
  unfolding methods_fit
  methods_kept class ms ns r e =
      let rest = and_right (list_all (method_fits p class) ms) (list_all (methods_in_order p) (neighbours ms) && all_differ own_method_key ms) e in
      and_both (list_all (method_fits p class) ns) (list_all (methods_in_order p) (neighbours ns) && all_differ own_method_key ns)
      (all_pairs (RecodedMethod p) (method_fits p class) (method_fits p class) (method_kept class) ms ns r (and_left (list_all (method_fits p class) ms) (list_all (methods_in_order p) (neighbours ms) && all_differ own_method_key ms) e))
      (and_both (list_all (methods_in_order p) (neighbours ns)) (all_differ own_method_key ns)
      (order_pairs (RecodedMethod p) (methods_in_order p) order_same ms ns r ∙ and_left (list_all (methods_in_order p) (neighbours ms)) (all_differ own_method_key ms) rest)
      (differ_pairs (RecodedMethod p) own_method_key key_same ms ns [] [] r tt ∙ and_right (list_all (methods_in_order p) (neighbours ms)) (all_differ own_method_key ms) rest))

  -- ---- classes

  class_with : (c : Class) (ns : List Method) → Pairwise (RecodedMethod p) c.methods ns → class_fits p c ≡ true → class_fits p (record c { methods = ns }) ≡ true
  unfolding class_fits types_of_class_fit
  class_with c ns r e =
      let types = and_left (types_of_class_fit p c && (source_fits p c.source && marks_fit p c.marks)) (fields_fit p c.name c.fields && methods_fit p c.name c.methods) e in
      let members = and_right (types_of_class_fit p c && (source_fits p c.source && marks_fit p c.marks)) (fields_fit p c.name c.fields && methods_fit p c.name c.methods) e in
      and_both (types_of_class_fit p c && (source_fits p c.source && marks_fit p c.marks)) (fields_fit p c.name c.fields && methods_fit p c.name ns) types
      (and_both (fields_fit p c.name c.fields) (methods_fit p c.name ns) (and_left (fields_fit p c.name c.fields) (methods_fit p c.name c.methods) members)
      (methods_kept c.name c.methods ns r (and_right (fields_fit p c.name c.fields) (methods_fit p c.name c.methods) members)))

  class_kept : (c d : Class) → RecodedClass p c d → class_fits p c ≡ true → class_fits p d ≡ true
  class_kept c d h e = subst (λ x. class_fits p x ≡ true) (sym h.same) (class_with c d.methods h.methods e)

  class_cells_fall : (c d : Class) → RecodedClass p c d → class_cells d ≤ class_cells c
  class_cells_fall c d h = sum_pairs (RecodedMethod p) method_cells cells_fall c.methods d.methods h.methods

  class_items_fall : (c d : Class) → RecodedClass p c d → class_items d ≤ class_items c
  unfolding class_items
  class_items_fall c d h = subst (λ x. class_items x ≤ class_items c) (sym h.same)
      (more _ _ _ (more _ _ _ (sum_pairs (RecodedMethod p) method_items items_fall c.methods d.methods h.methods)))

  -- ---- the program

  items_with : (cs : List Class) → Pairwise (RecodedClass p) p.classes cs → items_of (record p { classes = cs }) ≤ items_of p
  unfolding items_of
  items_with cs r = more _ _ _ (sum_pairs (RecodedClass p) class_items class_items_fall p.classes cs r)

  same_head : (c d : Class) → RecodedClass p c d → SameHead c d
  same_head c d h = subst (SameHead c) (sym h.same) (record { name = refl; flags = refl; superclass = refl; interfaces = refl })

  drawn_pairs : (cs ds : List Class) → Pairwise (RecodedClass p) cs ds → Drawn cs ds
  drawn_pairs [] [] r = Ended
  drawn_pairs [] (d ∷ ds) r = absurd r
  drawn_pairs (c ∷ cs) [] r = absurd r
  drawn_pairs (c ∷ cs) (d ∷ ds) r = Kept c d cs ds (same_head c d r.0) (drawn_pairs cs ds r.1)

  formed_with : (cs : List Class) → Pairwise (RecodedClass p) p.classes cs → is_well_formed p ≡ true → is_well_formed (record p { classes = cs }) ≡ true
  formed_with cs r e =
      let q : Program = record p { classes = cs } in
      let f = formed p e in
      well_formed q (record {
        tables = tables_kept p cs (no_more (length cs) (length p.classes) (length_pairs (RecodedClass p) p.classes cs r)) f.tables;
        cells = at_most (cells_of q) (cells_of p) 67108864 (sum_pairs (RecodedClass p) class_cells class_cells_fall p.classes cs r) f.cells;
        items = at_most (items_of q) (items_of p) 16777216 (items_with cs r) f.items;
        stands = stand_kept p q (drawn_pairs p.classes cs r) f.stands;
        classes = all_pairs (RecodedClass p) (class_fits p) (class_fits q) (λ c d h k. class_same p cs d ∙ class_kept c d h k) p.classes cs r f.classes;
      })

  pub recoded_formed : (q : Program) → RecodedProgram p q → is_well_formed p ≡ true → is_well_formed q ≡ true
  recoded_formed q h e = subst (λ x. is_well_formed x ≡ true) (sym h.same) (formed_with q.classes h.classes e)
