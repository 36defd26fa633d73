-- Values and annotations with new numbers keep their rules, and have as many items.
use Rattle.std.proofs.Common.{◌≡◌, ◌+◌, inl, inr, ℕ, zero, suc, Bool, true, List, [], ◌∷◌, length, map, refl, sym, ap, ap₂, subst, ◌∙◌, arith}
use Rattle.std.specs.Prelude.{◌&&◌, sum_by}
use Rattle.std.specs.List.{list_all, AllByRecursion, flat_map}
use Rattle.std.proofs.lemmas.List.Sums.{sum_by-cons}
use Rattle.std.proofs.lemmas.List.Sorted.{length_permutation}
use Rattle.lemmas.proofs.Bools.{and_both, and_left, and_right, and_parts}
use Rattle.lemmas.proofs.Lists.{map_long}
use Rattle.dex_pools.specs.declared.interner.Interner.{Interner}
use Rattle.dex_pools.specs.declared.used.Named.{Named}
use Rattle.dex_pools.specs.declared.used.Named.TheVariants as named
use Rattle.dex_pools.specs.Interned.{IsInterned}
use Rattle.dex_pools.specs.Marks.{mark_below}
use Rattle.dex_pools.specs.Numbering.{used_in}
use Rattle.dex_pools.specs.Used.{joined, names_of_value, value_names, element_names, note_names, mark_names}
use Rattle.dex_pools.specs.Value.{element_below}
use Rattle.program_model.specs.declared.pass.Renumber.{Renumber}
use Rattle.program_model.specs.declared.program.Program.{Program}
use Rattle.program_model.specs.declared.value.EncValue.{EncValue, EncValue-F, roll-EncValue, out-EncValue, out-roll-EncValue}
use Rattle.program_model.specs.declared.value.EncValue.TheOpen as layer
use Rattle.program_model.specs.declared.value.EncValue.TheFolds as folds
use Rattle.program_model.specs.declared.value.EncValue.TheFolds.{ind-EncValue, ind-Note}
use Rattle.program_model.specs.declared.value.Element.{Element}
use Rattle.program_model.specs.declared.value.Note.{Note, Note-F, roll-Note, out-Note, out-roll-Note, fold_out-Note}
use Rattle.program_model.specs.declared.value.Mark.{Mark}
use Rattle.program_model.specs.Items.{element_items, note_items, layer_items, value_items, mark_items, marks_items}
use Rattle.program_model.specs.Neighbours.{neighbours}
use Rattle.program_model.specs.Texts.{has_string, has_type}
use Rattle.program_model.specs.ValueRules.{element_fits, named_in_order, note_fits, names_fit, value_fits, mark_fits, typed_in_order, marks_fit}
use Rattle.dex_defs.specs.Written.{in_order, new_string, new_type, new_layer, new_element, new_note, new_value, new_mark, new_marks, written_by}
use Rattle.write_laws.specs.Used.{IsUsed, IsShort}
use Rattle.write_laws.proofs.Reordered.{ordered}
use Rattle.written_file.proofs.In.{In, in_left, in_right, in_flat, in_joined, all_in}
use Rattle.written_file.proofs.Naming.{element_named, value_named, note_named, element_of, note_of, element_is, note_is}
use Rattle.written_file.proofs.Sorting.{Differ}
use Rattle.written_file.proofs.News.{new_open, newly}
use Rattle.written_file.proofs.Marks.{class_of, class_named}
use Rattle.written_kept.proofs.Kept.{string_kept, type_kept, field_kept, method_kept, one_text, one_kind}
use Rattle.written_kept.proofs.Lists.{order_tests, order_ascends, ascends_side, side_ascends, numbers_total, rising_differ, sum_map, sum_same, sum_ordered, all_named}

pub tests_in : {X : Type 0} (t : X → Bool) (x : X) (xs : List X) → list_all t xs ≡ true → In x xs → t x ≡ true
tests_in t x [] h i = absurd i
tests_in t x (y ∷ ys) h (inl e) = ap t (sym e) ∙ and_left (t y) (list_all t ys) h
tests_in t x (y ∷ ys) h (inr i) = tests_in t x ys (and_right (t y) (list_all t ys) h) i

long_ordered : {X : Type 0} (below : X → X → Bool) (xs : List X) → length (in_order below xs) ≡ length xs
long_ordered below xs = omega (arith, length_permutation xs (in_order below xs) (ordered below xs))

module _ (r : Renumber) where
  -- ---- names in order

  names_new : (es : List Element) → map (λ e. e.name) (map (element_of r) es) ≡ map (λ e. new_string r e.name) es
  names_new [] = refl
  names_new (e ∷ es) = ap₂ (λ n ns. n ∷ ns) (ap (λ (x : Element). x.name) (element_is r e)) (names_new es)

  new_class : (m : Mark) → class_of (new_mark r m) ≡ new_type r (class_of m)
  new_class m =
      let whole : note_of r m.note ≡ roll-Note (record { class = new_type r (class_of m); elements = in_order element_below (map (element_of r) (out-Note m.note).elements) }) = fold_out-Note EncValue Element Note (new_layer r) (new_element r) (new_note r) m.note in
      ap (λ (n : Note). (out-Note n).class) whole ∙ ap (λ (z : Note-F EncValue Element Note). z.class) (out-roll-Note (record { class = new_type r (class_of m); elements = in_order element_below (map (element_of r) (out-Note m.note).elements) }))

  classes_new : (ms : List Mark) → map class_of (map (new_mark r) ms) ≡ map (λ m. new_type r (class_of m)) ms
  classes_new [] = refl
  classes_new (m ∷ ms) = ap₂ (λ n ns. n ∷ ns) (new_class m) (classes_new ms)

  -- ---- items

  abbrev VI : EncValue → Type 0
  VI v = (depth : ℕ) → value_items depth (new_value r v) ≡ value_items depth v

  abbrev EI : Element → Type 0
  EI e = (depth : ℕ) → value_items depth (element_of r e).value ≡ value_items depth e.value

  abbrev NI : Note → Type 0
  NI k = (depth : ℕ) → note_items (value_items depth) (note_of r k) ≡ note_items (value_items depth) k

  values_sum : (vs : List ((v : EncValue) × VI v)) (depth : ℕ) → sum_by (value_items depth) (map (new_value r) (map (λ e. e.0) vs)) ≡ sum_by (value_items depth) (map (λ e. e.0) vs)
  values_sum [] depth = refl
  values_sum (v ∷ vs) depth = sum_by-cons (value_items depth) (new_value r v.0) (map (new_value r) (map (λ e. e.0) vs)) ∙ ap₂ (λ m n. m + n) (v.1 depth) (values_sum vs depth) ∙ sym (sum_by-cons (value_items depth) v.0 (map (λ e. e.0) vs))

  elements_sum : (es : List ((e : Element) × EI e)) (depth : ℕ) → sum_by (element_items (value_items depth)) (map (element_of r) (map (λ e. e.0) es)) ≡ sum_by (element_items (value_items depth)) (map (λ e. e.0) es)
  elements_sum [] depth = refl
  elements_sum (e ∷ es) depth = sum_by-cons (element_items (value_items depth)) (element_of r e.0) (map (element_of r) (map (λ e. e.0) es)) ∙ ap₂ (λ m n. m + n) (e.1 depth) (elements_sum es depth) ∙ sym (sum_by-cons (element_items (value_items depth)) e.0 (map (λ e. e.0) es))

  abbrev plain_items : EncValue-F ((v : EncValue) × VI v) ((e : Element) × EI e) ((k : Note) × NI k) → EncValue-F EncValue Element Note
  plain_items y = folds.map-EncValue ((v : EncValue) × VI v) ((e : Element) × EI e) ((k : Note) × NI k) EncValue Element Note (λ e. e.0) (λ e. e.0) (λ e. e.0) y

  layer_sum : (y : EncValue-F ((v : EncValue) × VI v) ((e : Element) × EI e) ((k : Note) × NI k)) (depth : ℕ) → layer_items (value_items depth) (new_open r (plain_items y)) ≡ layer_items (value_items depth) (plain_items y)
  layer_sum (layer.Byte x) depth = refl
  layer_sum (layer.Short x) depth = refl
  layer_sum (layer.Char x) depth = refl
  layer_sum (layer.Int x) depth = refl
  layer_sum (layer.Long x) depth = refl
  layer_sum (layer.Float x) depth = refl
  layer_sum (layer.Double x) depth = refl
  layer_sum (layer.Str k) depth = refl
  layer_sum (layer.Class k) depth = refl
  layer_sum (layer.Field k) depth = refl
  layer_sum (layer.Method k) depth = refl
  layer_sum (layer.Enum k) depth = refl
  layer_sum (layer.Array vs) depth = ap₂ (λ m n. m + n) (map_long (new_value r) (map (λ e. e.0) vs)) (values_sum vs depth)
  layer_sum (layer.Annotation k) depth = k.1 depth
  layer_sum layer.Null depth = refl
  layer_sum (layer.Bool b) depth = refl

  value_sum : (x : EncValue-F EncValue Element Note) (y : EncValue-F ((v : EncValue) × VI v) ((e : Element) × EI e) ((k : Note) × NI k)) → plain_items y ≡ x → VI (roll-EncValue x)
  value_sum x y is zero = refl
  value_sum x y is (suc depth) =
      ap (layer_items (value_items depth)) (ap (λ (v : EncValue). out-EncValue v) (newly r x) ∙ out-roll-EncValue (new_open r x))
      ∙ subst (λ z. layer_items (value_items depth) (new_open r z) ≡ layer_items (value_items depth) z) is (layer_sum y depth)
      ∙ sym (ap (layer_items (value_items depth)) (out-roll-EncValue x))

  element_sum : (e : Element) → VI e.value → EI e
  element_sum e v depth = ap (λ (x : Element). value_items depth x.value) (element_is r e) ∙ v depth

  note_sum : (class : ℕ) (es : List ((e : Element) × EI e)) → NI (roll-Note (record { class = class; elements = map (λ e. e.0) es }))
  note_sum class es depth =
      let old : List Element = map (λ e. e.0) es in
      let fresh : Note-F EncValue Element Note = record { class = new_type r class; elements = in_order element_below (map (element_of r) old) } in
      let given : Note-F EncValue Element Note = record { class = class; elements = old } in
      let sized : Note-F EncValue Element Note → ℕ = λ z. length z.elements + sum_by (element_items (value_items depth)) z.elements in
      ap sized (ap (λ (k : Note). out-Note k) (note_is r class old) ∙ out-roll-Note fresh)
      ∙ ap₂ (λ m n. m + n) (long_ordered element_below (map (element_of r) old) ∙ map_long (element_of r) old) (sum_ordered element_below (element_items (value_items depth)) (map (element_of r) old) ∙ elements_sum es depth)
      ∙ sym (ap sized (out-roll-Note given))

  note_counts : (k : Note) → NI k
  note_counts = ind-Note VI EI NI value_sum
      (λ x y is. element_sum (record { name = x.name; value = x.value }) (subst VI (ap (λ z. z.value) is) y.value.1))
      (λ x y is. subst (λ z. NI (roll-Note z)) is (note_sum y.class y.elements))

  mark_same : (m : Mark) → mark_items (new_mark r m) ≡ mark_items m
  unfolding mark_items
  mark_same m = note_counts m.note 64

  pub marks_same : (ms : List Mark) → marks_items (new_marks r ms) ≡ marks_items ms
  marks_same ms = ap₂ (λ m n. m + n) (long_ordered mark_below (map (new_mark r) ms) ∙ map_long (new_mark r) ms) (sum_ordered mark_below mark_items (map (new_mark r) ms) ∙ (sum_map mark_items (new_mark r) ms ∙ sum_same (λ m. mark_items (new_mark r m)) mark_items mark_same ms))

module _ (p : Program) (i : Interner) (few : IsShort p) (h : IsInterned p i) where
  abbrev q : Program
  q = written_by i p

  abbrev r : Renumber
  r = i.numbers

  abbrev AllUsed : List Named → Type 0
  AllUsed ns = (n : Named) → In n ns → IsUsed (used_in p) n

  abbrev V : EncValue → Type 0
  V v = (depth : ℕ) → value_fits depth p v ≡ true → AllUsed (value_names v) → value_fits depth q (new_value r v) ≡ true

  abbrev E : Element → Type 0
  E e = (depth : ℕ) → element_fits (value_fits depth p) p e ≡ true → AllUsed (element_names e) → element_fits (value_fits depth q) q (element_of r e) ≡ true

  abbrev N : Note → Type 0
  N k = (depth : ℕ) → note_fits (value_fits depth p) p k ≡ true → AllUsed (note_names k) → note_fits (value_fits depth q) q (note_of r k) ≡ true

  values_fit : (vs : List ((v : EncValue) × V v)) (depth : ℕ) → list_all (value_fits depth p) (map (λ e. e.0) vs) ≡ true → AllUsed (joined (map value_names (map (λ e. e.0) vs)))
      → list_all (value_fits depth q) (map (new_value r) (map (λ e. e.0) vs)) ≡ true
  unfolding joined
  values_fit [] depth f u = refl
  values_fit (v ∷ vs) depth f u =
      let both = and_parts (value_fits depth p v.0) (list_all (value_fits depth p) (map (λ e. e.0) vs)) f in
      and_both (value_fits depth q (new_value r v.0)) (list_all (value_fits depth q) (map (new_value r) (map (λ e. e.0) vs)))
      (v.1 depth both.0 (λ n j. u n (in_left n (value_names v.0) (joined (map value_names (map (λ e. e.0) vs))) j)))
      (values_fit vs depth both.1 (λ n j. u n (in_right n (value_names v.0) (joined (map value_names (map (λ e. e.0) vs))) j)))

  elements_fit : (es : List ((e : Element) × E e)) (depth : ℕ) → list_all (element_fits (value_fits depth p) p) (map (λ e. e.0) es) ≡ true → AllUsed (joined (map element_names (map (λ e. e.0) es)))
      → list_all (element_fits (value_fits depth q) q) (map (element_of r) (map (λ e. e.0) es)) ≡ true
  unfolding joined
  elements_fit [] depth f u = refl
  elements_fit (e ∷ es) depth f u =
      let both = and_parts (element_fits (value_fits depth p) p e.0) (list_all (element_fits (value_fits depth p) p) (map (λ x. x.0) es)) f in
      and_both (element_fits (value_fits depth q) q (element_of r e.0)) (list_all (element_fits (value_fits depth q) q) (map (element_of r) (map (λ x. x.0) es)))
      (e.1 depth both.0 (λ n j. u n (in_left n (element_names e.0) (joined (map element_names (map (λ x. x.0) es))) j)))
      (elements_fit es depth both.1 (λ n j. u n (in_right n (element_names e.0) (joined (map element_names (map (λ x. x.0) es))) j)))

  abbrev old_names : EncValue-F EncValue Element Note → List Named
  old_names x = names_of_value (folds.map-EncValue EncValue Element Note (List Named) (List Named) (List Named) value_names element_names note_names x)

  abbrev plain : EncValue-F ((v : EncValue) × V v) ((e : Element) × E e) ((k : Note) × N k) → EncValue-F EncValue Element Note
  plain y = folds.map-EncValue ((v : EncValue) × V v) ((e : Element) × E e) ((k : Note) × N k) EncValue Element Note (λ e. e.0) (λ e. e.0) (λ e. e.0) y

  layer_fit : (y : EncValue-F ((v : EncValue) × V v) ((e : Element) × E e) ((k : Note) × N k)) (depth : ℕ) → names_fit (value_fits depth p) p (plain y) ≡ true → AllUsed (old_names (plain y)) → names_fit (value_fits depth q) q (new_open r (plain y)) ≡ true
  layer_fit (layer.Byte x) depth f u = refl
  layer_fit (layer.Short x) depth f u = refl
  layer_fit (layer.Char x) depth f u = refl
  layer_fit (layer.Int x) depth f u = refl
  layer_fit (layer.Long x) depth f u = refl
  layer_fit (layer.Float x) depth f u = refl
  layer_fit (layer.Double x) depth f u = refl
  layer_fit (layer.Str k) depth f u = string_kept p i few h k (u (named.Text k) (inl refl)) f
  layer_fit (layer.Class k) depth f u = type_kept p i few h k (u (named.Kind k) (inl refl)) f
  layer_fit (layer.Field k) depth f u = field_kept p i few h k (u (named.Field k) (inl refl)) f
  layer_fit (layer.Method k) depth f u = method_kept p i few h k (u (named.Method k) (inl refl)) f
  layer_fit (layer.Enum k) depth f u = field_kept p i few h k (u (named.Field k) (inl refl)) f
  layer_fit (layer.Array vs) depth f u = values_fit vs depth f u
  layer_fit (layer.Annotation k) depth f u = k.1 depth f u
  layer_fit layer.Null depth f u = refl
  layer_fit (layer.Bool b) depth f u = refl

  value_step : (x : EncValue-F EncValue Element Note) (y : EncValue-F ((v : EncValue) × V v) ((e : Element) × E e) ((k : Note) × N k)) → plain y ≡ x → V (roll-EncValue x)
  value_step x y is zero f u = absurd cc
  value_step x y is (suc depth) f u =
      let fits : names_fit (value_fits depth p) p x ≡ true = subst (λ z. names_fit (value_fits depth p) p z ≡ true) (out-roll-EncValue x) f in
      let names : AllUsed (old_names x) = subst AllUsed (value_named x) u in
      let on : names_fit (value_fits depth p) p x ≡ true → AllUsed (old_names x) → names_fit (value_fits depth q) q (new_open r x) ≡ true =
      subst (λ z. names_fit (value_fits depth p) p z ≡ true → AllUsed (old_names z) → names_fit (value_fits depth q) q (new_open r z) ≡ true) is (layer_fit y depth) in
      subst (λ z. names_fit (value_fits depth q) q z ≡ true) (sym (ap (λ (v : EncValue). out-EncValue v) (newly r x) ∙ out-roll-EncValue (new_open r x))) (on fits names)

  element_step : (e : Element) → V e.value → E e
  element_step e v depth f u =
      let both = and_parts (has_string p e.name) (value_fits depth p e.value) f in
      let names : AllUsed (named.Text e.name ∷ value_names e.value) = subst AllUsed (element_named e) u in
      subst (λ (x : Element). element_fits (value_fits depth q) q x ≡ true) (sym (element_is r e))
      (and_both (has_string q (new_string r e.name)) (value_fits depth q (new_value r e.value)) (string_kept p i few h e.name (names (named.Text e.name) (inl refl)) both.0) (v depth both.1 (λ n j. names n (inr j))))

  -- elements of which the names rise have new names that differ
  elements_apart : (depth : ℕ) (es : List Element) → list_all (element_fits (value_fits depth p) p) es ≡ true → list_all named_in_order (neighbours es) ≡ true → AllUsed (joined (map element_names es)) → Differ (map (λ e. e.name) (map (element_of r) es))
  elements_apart depth es f o u = subst Differ (sym (names_new r es)) (rising_differ (λ e. new_string r e.name) (λ e. e.name) es (side_ascends element_below es o)
      (λ x y a b e. one_text p i few h x.name y.name (name_used x a) (name_used y b) (has_name x a) (has_name y b) e))
    where
      name_used : (x : Element) → In x es → IsUsed (used_in p) (named.Text x.name)
      name_used x a = u (named.Text x.name) (in_joined element_names (named.Text x.name) x es a (subst (In (named.Text x.name)) (sym (element_named x)) (inl refl)))

      has_name : (x : Element) → In x es → has_string p x.name ≡ true
      has_name x a = and_left (has_string p x.name) (value_fits depth p x.value) (tests_in (element_fits (value_fits depth p) p) x es f a)

  note_step : (class : ℕ) (es : List ((e : Element) × E e)) → N (roll-Note (record { class = class; elements = map (λ e. e.0) es }))
  note_step class es depth f u =
      let old : List Element = map (λ e. e.0) es in
      let given : Note-F EncValue Element Note = record { class = class; elements = old } in
      let fits : (has_type p class && (list_all (element_fits (value_fits depth p) p) old && list_all named_in_order (neighbours old))) ≡ true = subst (λ (z : Note-F EncValue Element Note). (has_type p z.class && (list_all (element_fits (value_fits depth p) p) z.elements && list_all named_in_order (neighbours z.elements))) ≡ true) (out-roll-Note given) f in
      let a = and_parts (has_type p class) (list_all (element_fits (value_fits depth p) p) old && list_all named_in_order (neighbours old)) fits in
      let b = and_parts (list_all (element_fits (value_fits depth p) p) old) (list_all named_in_order (neighbours old)) a.1 in
      let names : AllUsed (named.Kind class ∷ joined (map element_names old)) = subst AllUsed (note_named class old) u in
      let news : List Element = in_order element_below (map (element_of r) old) in
      let fresh : Note-F EncValue Element Note = record { class = new_type r class; elements = news } in
      let back : fresh ≡ out-Note (note_of r (roll-Note (record { class = class; elements = old }))) = sym (ap (λ (k : Note). out-Note k) (note_is r class old) ∙ out-roll-Note fresh) in
      let apart : Differ (map (λ e. e.name) (map (element_of r) old)) = elements_apart depth old b.0 b.1 (λ n j. names n (inr j)) in
      subst (λ (z : Note-F EncValue Element Note). (has_type q z.class && (list_all (element_fits (value_fits depth q) q) z.elements && list_all named_in_order (neighbours z.elements))) ≡ true) back
      (and_both (has_type q (new_type r class)) (list_all (element_fits (value_fits depth q) q) news && list_all named_in_order (neighbours news)) (type_kept p i few h class (names (named.Kind class) (inl refl)) a.0)
      (and_both (list_all (element_fits (value_fits depth q) q) news) (list_all named_in_order (neighbours news))
      (order_tests element_below (element_fits (value_fits depth q) q) (map (element_of r) old) (elements_fit es depth b.0 (λ n j. names n (inr j))))
      (ascends_side element_below news (order_ascends element_below (map (element_of r) old) (numbers_total (λ (e : Element). e.name) (map (element_of r) old) apart)))))

  note_now : (k : Note) → N k
  note_now = ind-Note V E N value_step
      (λ x y is. element_step (record { name = x.name; value = x.value }) (subst V (ap (λ z. z.value) is) y.value.1))
      (λ x y is. subst (λ z. N (roll-Note z)) is (note_step y.class y.elements))

  mark_now : (m : Mark) → AllByRecursion (IsUsed (used_in p)) (mark_names m) → mark_fits p m ≡ true → mark_fits q (new_mark r m) ≡ true
  unfolding mark_fits
  mark_now m u f = note_now m.note 64 f (λ n j. all_in (IsUsed (used_in p)) n (mark_names m) u j)

  mark_class : (m : Mark) → mark_fits p m ≡ true → has_type p (class_of m) ≡ true
  unfolding mark_fits
  mark_class m f = and_left (has_type p (class_of m)) (list_all (element_fits (value_fits 64 p) p) (out-Note m.note).elements && list_all named_in_order (neighbours (out-Note m.note).elements)) f

  classes_apart : (ms : List Mark) → list_all (mark_fits p) ms ≡ true → list_all typed_in_order (neighbours ms) ≡ true → AllByRecursion (IsUsed (used_in p)) (flat_map mark_names ms) → Differ (map class_of (map (new_mark r) ms))
  classes_apart ms f o u = subst Differ (sym (classes_new r ms)) (rising_differ (λ m. new_type r (class_of m)) class_of ms (side_ascends mark_below ms o)
      (λ x y a b e. one_kind p i few h (class_of x) (class_of y) (class_used x a) (class_used y b) (mark_class x (tests_in (mark_fits p) x ms f a)) (mark_class y (tests_in (mark_fits p) y ms f b)) e))
    where
      class_used : (x : Mark) → In x ms → IsUsed (used_in p) (named.Kind (class_of x))
      class_used x a = all_in (IsUsed (used_in p)) (named.Kind (class_of x)) (flat_map mark_names ms) u (in_flat mark_names (named.Kind (class_of x)) x ms a (class_named x))

  pub marks_now : (ms : List Mark) → AllByRecursion (IsUsed (used_in p)) (flat_map mark_names ms) → marks_fit p ms ≡ true → marks_fit (written_by i p) (new_marks i.numbers ms) ≡ true
  unfolding marks_fit
  marks_now ms u f =
      let both = and_parts (list_all (mark_fits p) ms) (list_all typed_in_order (neighbours ms)) f in
      let news : List Mark = map (new_mark r) ms in
      and_both (list_all (mark_fits q) (in_order mark_below news)) (list_all typed_in_order (neighbours (in_order mark_below news)))
      (order_tests mark_below (mark_fits q) news (all_named (IsUsed (used_in p)) mark_names (new_mark r) (mark_fits p) (mark_fits q) mark_now ms u both.0))
      (ascends_side mark_below (in_order mark_below news) (order_ascends mark_below news (numbers_total class_of news (classes_apart ms both.0 both.1 u))))
