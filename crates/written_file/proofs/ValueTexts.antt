-- Values and annotations are written as those of the written program are.
use Rattle.std.proofs.Common.{◌≡◌, ◌<◌, inl, inr, ℕ, zero, suc, Bool, true, false, List, [], ◌∷◌, ◌++◌, length, map, drop, refl, sym, ap, subst, ◌∙◌, arith}
use Rattle.std.specs.Prelude.{◌&&◌, nat_lt}
use Rattle.std.specs.List.{list_all, zip}
use Rattle.std.proofs.lemmas.Bool.{and_parts}
use Rattle.lemmas.proofs.Bools.{clash}
use Rattle.dex_base.specs.Leb.{uleb_text}
use Rattle.dex_pools.specs.declared.used.Named.{Named}
use Rattle.dex_pools.specs.declared.used.Named.TheVariants as named
use Rattle.dex_pools.specs.Used.{joined, names_of_value, value_names, element_names, note_names}
use Rattle.dex_pools.specs.Finds.{Ascends}
use Rattle.dex_pools.specs.Value.{element_below}
use Rattle.dex_pools.specs.Written.{tagged, unsigned_few, signed_few, float_few, double_few, listed, text_of_value, text_of_element, text_of_note, value_text, element_text, note_text, renumbered}
use Rattle.program_model.specs.declared.pass.Renumber.{Renumber}
use Rattle.program_model.specs.declared.program.Program.{Program}
use Rattle.program_model.specs.declared.value.EncValue.{EncValue, EncValue-F, fold-EncValue, fold-roll-EncValue, roll-EncValue, out-EncValue, out-roll-EncValue}
use Rattle.program_model.specs.declared.value.EncValue.TheOpen as layer
use Rattle.program_model.specs.declared.value.EncValue.TheVariants as variant
use Rattle.program_model.specs.declared.value.EncValue.TheFolds as folds
use Rattle.program_model.specs.declared.value.EncValue.TheFolds.{ind-EncValue, ind-Note}
use Rattle.program_model.specs.declared.value.Element.{Element, fold-Element, fold_out-Element}
use Rattle.program_model.specs.declared.value.Note.{Note, Note-F, fold-Note, fold-roll-Note, roll-Note, out-Note, out-roll-Note}
use Rattle.program_model.specs.Neighbours.{neighbours}
use Rattle.program_model.specs.Texts.{has_string, has_type}
use Rattle.program_model.specs.ValueRules.{element_fits, named_in_order, note_fits, names_fit, value_fits}
use Rattle.dex_defs.specs.Written.{insert, in_order, new_string, new_type, new_field, new_method, new_layer, new_element, new_note, new_value}
use Rattle.dex_defs.specs.ValueTexts as texts
use Rattle.written_file.proofs.In.{In, in_left, in_right}
use Rattle.written_file.proofs.Naming.{element_named, value_named, note_named, element_of, note_of, element_is, note_is, value_new}

-- ---- what ascends stays as it is

pub order_stays : {X : Type 0} (below : X → X → Bool) (xs : List X) → Ascends below xs → in_order below xs ≡ xs
order_stays below [] h = refl
order_stays below (x ∷ []) h = refl
order_stays below (x ∷ y ∷ xs) h = ap (λ l. insert below x l) (order_stays below (y ∷ xs) h.1) ∙ rw h.0 refl

-- ---- texts of new values

abbrev pub whole_element : Element → List ℕ
whole_element e = fold-Element (List ℕ) (List ℕ) (List ℕ) texts.layer_text texts.element_text texts.note_layer_text e

element_spelled : (e : Element) → whole_element e ≡ uleb_text e.name ++ texts.value_text e.value
element_spelled e = fold_out-Element (List ℕ) (List ℕ) (List ℕ) texts.layer_text texts.element_text texts.note_layer_text e

value_spelled : (x : EncValue-F EncValue Element Note) → texts.value_text (roll-EncValue x) ≡ texts.layer_text (folds.map-EncValue EncValue Element Note (List ℕ) (List ℕ) (List ℕ) texts.value_text whole_element texts.note_text x)
value_spelled x = fold-roll-EncValue (List ℕ) (List ℕ) (List ℕ) texts.layer_text texts.element_text texts.note_layer_text x

note_spelled : (class : ℕ) (es : List Element) → texts.note_text (roll-Note (record { class = class; elements = es })) ≡ uleb_text class ++ listed (map whole_element es)
note_spelled class es = fold-roll-Note (List ℕ) (List ℕ) (List ℕ) texts.layer_text texts.element_text texts.note_layer_text (record { class = class; elements = es })

old_element : (r : Renumber) (e : Element) → element_text r e ≡ uleb_text (renumbered r.strings.items e.name) ++ value_text r e.value
unfolding element_text value_text
old_element r e = fold_out-Element (List ℕ) (List ℕ) (List ℕ) (text_of_value r) (text_of_element r) (text_of_note r) e

pub old_value : (r : Renumber) (x : EncValue-F EncValue Element Note) → value_text r (roll-EncValue x) ≡ text_of_value r (folds.map-EncValue EncValue Element Note (List ℕ) (List ℕ) (List ℕ) (value_text r) (element_text r) (note_text r) x)
unfolding element_text value_text note_text
old_value r x = fold-roll-EncValue (List ℕ) (List ℕ) (List ℕ) (text_of_value r) (text_of_element r) (text_of_note r) x

old_note : (r : Renumber) (class : ℕ) (es : List Element) → note_text r (roll-Note (record { class = class; elements = es })) ≡ uleb_text (renumbered r.types.items class) ++ listed (map (element_text r) es)
unfolding element_text note_text
old_note r class es = fold-roll-Note (List ℕ) (List ℕ) (List ℕ) (text_of_value r) (text_of_element r) (text_of_note r) (record { class = class; elements = es })

-- the text of a layer when it is new
abbrev pub new_text : Renumber → EncValue-F EncValue Element Note → List ℕ
new_text r (layer.Byte z) = tagged 0 (signed_few z)
new_text r (layer.Short z) = tagged 2 (signed_few z)
new_text r (layer.Char n) = tagged 3 (unsigned_few n)
new_text r (layer.Int z) = tagged 4 (signed_few z)
new_text r (layer.Long z) = tagged 6 (signed_few z)
new_text r (layer.Float bits) = tagged 16 (float_few bits)
new_text r (layer.Double bits) = tagged 17 (double_few bits)
new_text r (layer.Str n) = tagged 23 (unsigned_few (new_string r n))
new_text r (layer.Class n) = tagged 24 (unsigned_few (new_type r n))
new_text r (layer.Field n) = tagged 25 (unsigned_few (new_field r n))
new_text r (layer.Method n) = tagged 26 (unsigned_few (new_method r n))
new_text r (layer.Enum n) = tagged 27 (unsigned_few (new_field r n))
new_text r (layer.Array vs) = 28 ∷ listed (map texts.value_text (map (new_value r) vs))
new_text r (layer.Annotation n) = 29 ∷ texts.note_text (note_of r n)
new_text r layer.Null = 30 ∷ []
new_text r (layer.Bool b) = texts.layer_text (layer.Bool b)

one_spelled : (r : Renumber) (x y : EncValue-F EncValue Element Note) (t : List ℕ) → new_value r (roll-EncValue x) ≡ roll-EncValue y → texts.layer_text (folds.map-EncValue EncValue Element Note (List ℕ) (List ℕ) (List ℕ) texts.value_text whole_element texts.note_text y) ≡ t → texts.value_text (new_value r (roll-EncValue x)) ≡ t
one_spelled r x y t a b = ap (λ (v : EncValue). texts.value_text v) a ∙ (value_spelled y ∙ b)

pub newly_spelled : (r : Renumber) (x : EncValue-F EncValue Element Note) → texts.value_text (new_value r (roll-EncValue x)) ≡ new_text r x
newly_spelled r (layer.Byte z) = one_spelled r (layer.Byte z) (layer.Byte z) _ (value_new r (layer.Byte z) ∙ sym (variant.rolls-Byte z)) refl
newly_spelled r (layer.Short z) = one_spelled r (layer.Short z) (layer.Short z) _ (value_new r (layer.Short z) ∙ sym (variant.rolls-Short z)) refl
newly_spelled r (layer.Char z) = one_spelled r (layer.Char z) (layer.Char z) _ (value_new r (layer.Char z) ∙ sym (variant.rolls-Char z)) refl
newly_spelled r (layer.Int z) = one_spelled r (layer.Int z) (layer.Int z) _ (value_new r (layer.Int z) ∙ sym (variant.rolls-Int z)) refl
newly_spelled r (layer.Long z) = one_spelled r (layer.Long z) (layer.Long z) _ (value_new r (layer.Long z) ∙ sym (variant.rolls-Long z)) refl
newly_spelled r (layer.Float z) = one_spelled r (layer.Float z) (layer.Float z) _ (value_new r (layer.Float z) ∙ sym (variant.rolls-Float z)) refl
newly_spelled r (layer.Double z) = one_spelled r (layer.Double z) (layer.Double z) _ (value_new r (layer.Double z) ∙ sym (variant.rolls-Double z)) refl
newly_spelled r (layer.Str n) = one_spelled r (layer.Str n) (layer.Str (new_string r n)) _ (value_new r (layer.Str n) ∙ sym (variant.rolls-Str (new_string r n))) refl
newly_spelled r (layer.Class n) = one_spelled r (layer.Class n) (layer.Class (new_type r n)) _ (value_new r (layer.Class n) ∙ sym (variant.rolls-Class (new_type r n))) refl
newly_spelled r (layer.Field n) = one_spelled r (layer.Field n) (layer.Field (new_field r n)) _ (value_new r (layer.Field n) ∙ sym (variant.rolls-Field (new_field r n))) refl
newly_spelled r (layer.Method n) = one_spelled r (layer.Method n) (layer.Method (new_method r n)) _ (value_new r (layer.Method n) ∙ sym (variant.rolls-Method (new_method r n))) refl
newly_spelled r (layer.Enum n) = one_spelled r (layer.Enum n) (layer.Enum (new_field r n)) _ (value_new r (layer.Enum n) ∙ sym (variant.rolls-Enum (new_field r n))) refl
newly_spelled r (layer.Array vs) = one_spelled r (layer.Array vs) (layer.Array (map (new_value r) vs)) _ (value_new r (layer.Array vs) ∙ sym (variant.rolls-Array (map (new_value r) vs))) refl
newly_spelled r (layer.Annotation n) = one_spelled r (layer.Annotation n) (layer.Annotation (note_of r n)) _ (value_new r (layer.Annotation n) ∙ sym (variant.rolls-Annotation (note_of r n))) refl
newly_spelled r layer.Null = one_spelled r layer.Null layer.Null _ (value_new r layer.Null ∙ sym variant.rolls-Null) refl
newly_spelled r (layer.Bool b) = one_spelled r (layer.Bool b) (layer.Bool b) _ (value_new r (layer.Bool b) ∙ sym (variant.rolls-Bool b)) refl

module _ (p : Program) (r : Renumber) (Used : ℕ → Type 0) (rises : (a b : ℕ) → Used a → Used b → has_string p a ≡ true → has_string p b ≡ true → nat_lt a b ≡ true → nat_lt (new_string r a) (new_string r b) ≡ true) where
  -- the strings that are named are used
  abbrev pub AllText : List Named → Type 0
  AllText ns = (n : ℕ) → In (named.Text n) ns → Used n

  abbrev V : EncValue → Type 0
  V v = (depth : ℕ) → value_fits depth p v ≡ true → AllText (value_names v) → texts.value_text (new_value r v) ≡ value_text r v

  abbrev E : Element → Type 0
  E e = (depth : ℕ) → element_fits (value_fits depth p) p e ≡ true → AllText (element_names e) → whole_element (element_of r e) ≡ element_text r e

  abbrev N : Note → Type 0
  N k = (depth : ℕ) → note_fits (value_fits depth p) p k ≡ true → AllText (note_names k) → texts.note_text (note_of r k) ≡ note_text r k

  values_same : (vs : List ((v : EncValue) × V v)) (depth : ℕ) → list_all (value_fits depth p) (map (λ e. e.0) vs) ≡ true → AllText (joined (map value_names (map (λ e. e.0) vs)))
      → map texts.value_text (map (new_value r) (map (λ e. e.0) vs)) ≡ map (value_text r) (map (λ e. e.0) vs)
  unfolding joined
  values_same [] depth f u = refl
  values_same (v ∷ vs) depth f u =
      let both = and_parts (value_fits depth p v.0) (list_all (value_fits depth p) (map (λ e. e.0) vs)) f in
      ap (λ (t : List ℕ). t ∷ map texts.value_text (map (new_value r) (map (λ e. e.0) vs))) (v.1 depth both.0 (λ n j. u n (in_left (named.Text n) (value_names v.0) (joined (map value_names (map (λ e. e.0) vs))) j)))
      ∙ ap (λ (ts : List (List ℕ)). value_text r v.0 ∷ ts) (values_same vs depth both.1 (λ n j. u n (in_right (named.Text n) (value_names v.0) (joined (map value_names (map (λ e. e.0) vs))) j)))

  elements_same : (es : List ((e : Element) × E e)) (depth : ℕ) → list_all (element_fits (value_fits depth p) p) (map (λ e. e.0) es) ≡ true → AllText (joined (map element_names (map (λ e. e.0) es)))
      → map whole_element (map (element_of r) (map (λ e. e.0) es)) ≡ map (element_text r) (map (λ e. e.0) es)
  unfolding joined
  elements_same [] depth f u = refl
  elements_same (e ∷ es) depth f u =
      let both = and_parts (element_fits (value_fits depth p) p e.0) (list_all (element_fits (value_fits depth p) p) (map (λ x. x.0) es)) f in
      ap (λ (t : List ℕ). t ∷ map whole_element (map (element_of r) (map (λ x. x.0) es))) (e.1 depth both.0 (λ n j. u n (in_left (named.Text n) (element_names e.0) (joined (map element_names (map (λ x. x.0) es))) j)))
      ∙ ap (λ (ts : List (List ℕ)). element_text r e.0 ∷ ts) (elements_same es depth both.1 (λ n j. u n (in_right (named.Text n) (element_names e.0) (joined (map element_names (map (λ x. x.0) es))) j)))

  abbrev old_names : EncValue-F EncValue Element Note → List Named
  old_names x = names_of_value (folds.map-EncValue EncValue Element Note (List Named) (List Named) (List Named) value_names element_names note_names x)

  abbrev old_text : EncValue-F EncValue Element Note → List ℕ
  old_text x = text_of_value r (folds.map-EncValue EncValue Element Note (List ℕ) (List ℕ) (List ℕ) (value_text r) (element_text r) (note_text r) x)

  abbrev plain : EncValue-F ((v : EncValue) × V v) ((e : Element) × E e) ((k : Note) × N k) → EncValue-F EncValue Element Note
  plain y = folds.map-EncValue ((v : EncValue) × V v) ((e : Element) × E e) ((k : Note) × N k) EncValue Element Note (λ e. e.0) (λ e. e.0) (λ e. e.0) y

  layer_same : (y : EncValue-F ((v : EncValue) × V v) ((e : Element) × E e) ((k : Note) × N k)) (depth : ℕ) → names_fit (value_fits depth p) p (plain y) ≡ true → AllText (old_names (plain y)) → new_text r (plain y) ≡ old_text (plain y)
  layer_same (layer.Byte x) depth f u = refl
  layer_same (layer.Short x) depth f u = refl
  layer_same (layer.Char x) depth f u = refl
  layer_same (layer.Int x) depth f u = refl
  layer_same (layer.Long x) depth f u = refl
  layer_same (layer.Float x) depth f u = refl
  layer_same (layer.Double x) depth f u = refl
  layer_same (layer.Str k) depth f u = refl
  layer_same (layer.Class k) depth f u = refl
  layer_same (layer.Field k) depth f u = refl
  layer_same (layer.Method k) depth f u = refl
  layer_same (layer.Enum k) depth f u = refl
  layer_same (layer.Array vs) depth f u = ap (λ (ts : List (List ℕ)). 28 ∷ listed ts) (values_same vs depth f u)
  layer_same (layer.Annotation k) depth f u = ap (λ (t : List ℕ). 29 ∷ t) (k.1 depth f u)
  layer_same layer.Null depth f u = refl
  layer_same (layer.Bool b) depth f u = refl

  value_step : (x : EncValue-F EncValue Element Note) (y : EncValue-F ((v : EncValue) × V v) ((e : Element) × E e) ((k : Note) × N k)) → plain y ≡ x → V (roll-EncValue x)
  value_step x y is zero f u = clash false f refl
  value_step x y is (suc depth) f u =
      let fits : names_fit (value_fits depth p) p x ≡ true = subst (λ z. names_fit (value_fits depth p) p z ≡ true) (out-roll-EncValue x) f in
      let same : names_fit (value_fits depth p) p x ≡ true → AllText (old_names x) → new_text r x ≡ old_text x = subst (λ z. names_fit (value_fits depth p) p z ≡ true → AllText (old_names z) → new_text r z ≡ old_text z) is (layer_same y depth) in
      newly_spelled r x ∙ (same fits (subst AllText (value_named x) u) ∙ sym (old_value r x))

  element_step : (e : Element) → V e.value → E e
  element_step e v depth f u =
      let both = and_parts (has_string p e.name) (value_fits depth p e.value) f in
      let names : AllText (named.Text e.name ∷ value_names e.value) = subst AllText (element_named e) u in
      ap (λ (x : Element). whole_element x) (element_is r e) ∙ (element_spelled (new_element r (record { name = e.name; value = new_value r e.value }))
      ∙ (ap (λ (t : List ℕ). uleb_text (new_string r e.name) ++ t) (v depth both.1 (λ n j. names n (inr j))) ∙ sym (old_element r e)))

  abbrev name_of : Element → ℕ
  name_of e = e.name

  new_name : (e : Element) → (element_of r e).name ≡ new_string r e.name
  new_name e = ap (λ (x : Element). x.name) (element_is r e)

  named_used : (e : Element) → AllText (element_names e) → Used e.name
  named_used e u = (subst AllText (element_named e) u) e.name (inl refl)

  pub elements_ascend : (depth : ℕ) (es : List Element) → list_all (element_fits (value_fits depth p) p) es ≡ true → list_all named_in_order (neighbours es) ≡ true → AllText (joined (map element_names es)) → Ascends element_below (map (element_of r) es)
  unfolding joined
  elements_ascend depth [] f o u = tt
  elements_ascend depth (x ∷ []) f o u = tt
  elements_ascend depth (x ∷ y ∷ es) f o u =
      let fits = and_parts (element_fits (value_fits depth p) p x) (list_all (element_fits (value_fits depth p) p) (y ∷ es)) f in
      let next = and_parts (element_fits (value_fits depth p) p y) (list_all (element_fits (value_fits depth p) p) es) fits.1 in
      let has_x = and_parts (has_string p x.name) (value_fits depth p x.value) fits.0 in
      let has_y = and_parts (has_string p y.name) (value_fits depth p y.value) next.0 in
      let both = and_parts (named_in_order (x, y)) (list_all named_in_order (neighbours (y ∷ es))) o in
      let used_x : Used x.name = named_used x (λ n j. u n (in_left (named.Text n) (element_names x) (element_names y ++ joined (map element_names es)) j)) in
      let used_y : Used y.name = named_used y (λ n j. u n (in_right (named.Text n) (element_names x) (element_names y ++ joined (map element_names es)) (in_left (named.Text n) (element_names y) (joined (map element_names es)) j))) in
      let below : element_below (element_of r x) (element_of r y) ≡ true = ap (λ (n : ℕ). nat_lt n (element_of r y).name) (new_name x) ∙ (ap (λ (n : ℕ). nat_lt (new_string r x.name) n) (new_name y) ∙ rises x.name y.name used_x used_y has_x.0 has_y.0 both.0) in
      (below, elements_ascend depth (y ∷ es) fits.1 both.1 (λ n j. u n (in_right (named.Text n) (element_names x) (element_names y ++ joined (map element_names es)) j)))

  note_step : (class : ℕ) (es : List ((e : Element) × E e)) → N (roll-Note (record { class = class; elements = map (λ e. e.0) es }))
  note_step class es depth f u =
      let old : List Element = map (λ e. e.0) es in
      let fits : (has_type p class && (list_all (element_fits (value_fits depth p) p) old && list_all named_in_order (neighbours old))) ≡ true = subst (λ (z : Note-F EncValue Element Note). (has_type p z.class && (list_all (element_fits (value_fits depth p) p) z.elements && list_all named_in_order (neighbours z.elements))) ≡ true) (out-roll-Note (record { class = class; elements = old })) f in
      let a = and_parts (has_type p class) (list_all (element_fits (value_fits depth p) p) old && list_all named_in_order (neighbours old)) fits in
      let b = and_parts (list_all (element_fits (value_fits depth p) p) old) (list_all named_in_order (neighbours old)) a.1 in
      let names : AllText (named.Kind class ∷ joined (map element_names old)) = subst AllText (note_named class old) u in
      let elements : AllText (joined (map element_names old)) = λ n j. names n (inr j) in
      let stays : in_order element_below (map (element_of r) old) ≡ map (element_of r) old = order_stays element_below (map (element_of r) old) (elements_ascend depth old b.0 b.1 elements) in
      ap (λ (k : Note). texts.note_text k) (note_is r class old)
      ∙ (ap (λ (l : List Element). texts.note_text (roll-Note (record { class = new_type r class; elements = l }))) stays
      ∙ (note_spelled (new_type r class) (map (element_of r) old)
      ∙ (ap (λ (l : List (List ℕ)). uleb_text (new_type r class) ++ listed l) (elements_same es depth b.0 elements)
      ∙ sym (old_note r class old))))

  pub value_same : (v : EncValue) → V v
  value_same = ind-EncValue V E N value_step
      (λ x y is. element_step (record { name = x.name; value = x.value }) (subst V (ap (λ z. z.value) is) y.value.1))
      (λ x y is. subst (λ z. N (roll-Note z)) is (note_step y.class y.elements))

  pub note_same : (k : Note) → N k
  note_same = ind-Note V E N value_step
      (λ x y is. element_step (record { name = x.name; value = x.value }) (subst V (ap (λ z. z.value) is) y.value.1))
      (λ x y is. subst (λ z. N (roll-Note z)) is (note_step y.class y.elements))
