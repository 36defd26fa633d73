-- The values of a used annotation of a well-formed program fit in the written program.
use Rattle.std.proofs.Common.{◌≡◌, ◌<◌, ◌^◌, inl, inr, ℕ, zero, suc, Bool, true, List, [], ◌∷◌, length, map, refl, sym, ap, subst, ◌∙◌, arith}
use Rattle.std.specs.Prelude.{◌&&◌, nat_lt}
use Rattle.std.specs.List.{list_all, AllByRecursion}
use Rattle.std.proofs.lemmas.Bool.{and_parts}
use Rattle.std.proofs.lemmas.List.{length-map}
use Rattle.dex_pools.specs.declared.scalar.TableSizes.{TableSizes}
use Rattle.dex_pools.specs.declared.used.Named.{Named}
use Rattle.dex_pools.specs.declared.used.Named.TheVariants as named
use Rattle.dex_pools.specs.Used.{joined, names_of_value, value_names, element_names, note_names, mark_names}
use Rattle.dex_pools.specs.Finds.{Ascends}
use Rattle.dex_pools.specs.Value.{element_below}
use Rattle.program_model.specs.declared.pass.Renumber.{Renumber}
use Rattle.program_model.specs.declared.program.Program.{Program}
use Rattle.program_model.specs.declared.value.EncValue.{EncValue, EncValue-F, roll-EncValue, out-EncValue, out-roll-EncValue}
use Rattle.program_model.specs.declared.value.EncValue.TheOpen as layer
use Rattle.program_model.specs.declared.value.EncValue.TheVariants as variant
use Rattle.program_model.specs.declared.value.EncValue.TheFolds as folds
use Rattle.program_model.specs.declared.value.EncValue.TheFolds.{ind-EncValue, ind-Note}
use Rattle.program_model.specs.declared.value.Element.{Element}
use Rattle.program_model.specs.declared.value.Note.{Note, Note-F, roll-Note, out-Note, out-roll-Note}
use Rattle.program_model.specs.declared.value.Mark.{Mark}
use Rattle.program_model.specs.Neighbours.{neighbours}
use Rattle.program_model.specs.Texts.{has_string, has_type, has_field, has_method}
use Rattle.program_model.specs.ValueRules.{element_fits, named_in_order, note_fits, names_fit, value_fits, mark_fits}
use Rattle.dex_defs.specs.Written.{new_string, new_type, new_field, new_method, new_value, new_mark}
use Rattle.written_file.specs.Fitting.{NoteFits, LayerFits, ValueFits, MarkFits}
use Rattle.written_file.specs.Wide.{IsWideNote, IsWideLayer, IsWide, IsWideMark}
use Rattle.written_file.proofs.In.{In, in_left, in_right}
use Rattle.written_file.proofs.Naming.{element_named, value_named, note_named, element_of, note_of, element_is, note_is, value_new}
use Rattle.written_file.proofs.ValueTexts.{order_stays, elements_ascend}

-- the layer that a layer becomes
abbrev pub new_open : Renumber → EncValue-F EncValue Element Note → EncValue-F EncValue Element Note
new_open r (layer.Byte z) = layer.Byte z
new_open r (layer.Short z) = layer.Short z
new_open r (layer.Char n) = layer.Char n
new_open r (layer.Int z) = layer.Int z
new_open r (layer.Long z) = layer.Long z
new_open r (layer.Float n) = layer.Float n
new_open r (layer.Double n) = layer.Double n
new_open r (layer.Str n) = layer.Str (new_string r n)
new_open r (layer.Class n) = layer.Class (new_type r n)
new_open r (layer.Field n) = layer.Field (new_field r n)
new_open r (layer.Method n) = layer.Method (new_method r n)
new_open r (layer.Enum n) = layer.Enum (new_field r n)
new_open r (layer.Array vs) = layer.Array (map (new_value r) vs)
new_open r (layer.Annotation n) = layer.Annotation (note_of r n)
new_open r layer.Null = layer.Null
new_open r (layer.Bool b) = layer.Bool b

pub newly : (r : Renumber) (x : EncValue-F EncValue Element Note) → new_value r (roll-EncValue x) ≡ roll-EncValue (new_open r x)
newly r (layer.Byte z) = value_new r (layer.Byte z) ∙ sym (variant.rolls-Byte z)
newly r (layer.Short z) = value_new r (layer.Short z) ∙ sym (variant.rolls-Short z)
newly r (layer.Char z) = value_new r (layer.Char z) ∙ sym (variant.rolls-Char z)
newly r (layer.Int z) = value_new r (layer.Int z) ∙ sym (variant.rolls-Int z)
newly r (layer.Long z) = value_new r (layer.Long z) ∙ sym (variant.rolls-Long z)
newly r (layer.Float z) = value_new r (layer.Float z) ∙ sym (variant.rolls-Float z)
newly r (layer.Double z) = value_new r (layer.Double z) ∙ sym (variant.rolls-Double z)
newly r (layer.Str n) = value_new r (layer.Str n) ∙ sym (variant.rolls-Str (new_string r n))
newly r (layer.Class n) = value_new r (layer.Class n) ∙ sym (variant.rolls-Class (new_type r n))
newly r (layer.Field n) = value_new r (layer.Field n) ∙ sym (variant.rolls-Field (new_field r n))
newly r (layer.Method n) = value_new r (layer.Method n) ∙ sym (variant.rolls-Method (new_method r n))
newly r (layer.Enum n) = value_new r (layer.Enum n) ∙ sym (variant.rolls-Enum (new_field r n))
newly r (layer.Array vs) = value_new r (layer.Array vs) ∙ sym (variant.rolls-Array (map (new_value r) vs))
newly r (layer.Annotation n) = value_new r (layer.Annotation n) ∙ sym (variant.rolls-Annotation (note_of r n))
newly r layer.Null = value_new r layer.Null ∙ sym variant.rolls-Null
newly r (layer.Bool b) = value_new r (layer.Bool b) ∙ sym (variant.rolls-Bool b)

-- where new numbers are
pub record Lands (p : Program) (r : Renumber) (sizes : TableSizes) (Used : Named → Type 0) : Type 0 where
  pub strings : (n : ℕ) → Used (named.Text n) → has_string p n ≡ true → new_string r n < sizes.strings
  pub types : (n : ℕ) → Used (named.Kind n) → has_type p n ≡ true → new_type r n < sizes.types
  pub fields : (n : ℕ) → Used (named.Field n) → has_field p n ≡ true → new_field r n < sizes.fields
  pub methods : (n : ℕ) → Used (named.Method n) → has_method p n ≡ true → new_method r n < sizes.methods

module _ (p : Program) (r : Renumber) (sizes : TableSizes) (Used : Named → Type 0) (rises : (a b : ℕ) → Used (named.Text a) → Used (named.Text b) → has_string p a ≡ true → has_string p b ≡ true → nat_lt a b ≡ true → nat_lt (new_string r a) (new_string r b) ≡ true)
    (lands : Lands p r sizes Used) where
  abbrev pub AllUsed : List Named → Type 0
  AllUsed ns = (n : Named) → In n ns → Used n

  abbrev UsedText : ℕ → Type 0
  UsedText n = Used (named.Text n)

  abbrev V : EncValue → Type 0
  V v = (depth : ℕ) → value_fits depth p v ≡ true → IsWide depth v → AllUsed (value_names v) → ValueFits sizes depth (new_value r v)

  abbrev E : Element → Type 0
  E e = (depth : ℕ) → element_fits (value_fits depth p) p e ≡ true → IsWide depth e.value → AllUsed (element_names e) → ((element_of r e).name < sizes.strings) × ValueFits sizes depth (element_of r e).value

  abbrev N : Note → Type 0
  N k = (depth : ℕ) → note_fits (value_fits depth p) p k ≡ true → IsWideNote (IsWide depth) k → AllUsed (note_names k) → NoteFits sizes (ValueFits sizes depth) (note_of r k)

  values_fit : (vs : List ((v : EncValue) × V v)) (depth : ℕ) → list_all (value_fits depth p) (map (λ e. e.0) vs) ≡ true → AllByRecursion (IsWide depth) (map (λ e. e.0) vs) → AllUsed (joined (map value_names (map (λ e. e.0) vs)))
      → AllByRecursion (ValueFits sizes depth) (map (new_value r) (map (λ e. e.0) vs))
  unfolding joined
  values_fit [] depth f w u = tt
  values_fit (v ∷ vs) depth f w u =
      let both = and_parts (value_fits depth p v.0) (list_all (value_fits depth p) (map (λ e. e.0) vs)) f in (
        v.1 depth both.0 w.0 (λ n j. u n (in_left n (value_names v.0) (joined (map value_names (map (λ e. e.0) vs))) j)),
        values_fit vs depth both.1 w.1 (λ n j. u n (in_right n (value_names v.0) (joined (map value_names (map (λ e. e.0) vs))) j)),
      )

  elements_fit : (es : List ((e : Element) × E e)) (depth : ℕ) → list_all (element_fits (value_fits depth p) p) (map (λ e. e.0) es) ≡ true → AllByRecursion (λ (e : Element). IsWide depth e.value) (map (λ e. e.0) es) → AllUsed (joined (map element_names (map (λ e. e.0) es)))
      → AllByRecursion (λ (e : Element). (e.name < sizes.strings) × ValueFits sizes depth e.value) (map (element_of r) (map (λ e. e.0) es))
  unfolding joined
  elements_fit [] depth f w u = tt
  elements_fit (e ∷ es) depth f w u =
      let both = and_parts (element_fits (value_fits depth p) p e.0) (list_all (element_fits (value_fits depth p) p) (map (λ x. x.0) es)) f in (
        e.1 depth both.0 w.0 (λ n j. u n (in_left n (element_names e.0) (joined (map element_names (map (λ x. x.0) es))) j)),
        elements_fit es depth both.1 w.1 (λ n j. u n (in_right n (element_names e.0) (joined (map element_names (map (λ x. x.0) es))) j)),
      )

  as_many : (vs : List EncValue) → length vs < 2 ^ 32 → length (map (new_value r) vs) < 2 ^ 32
  as_many vs lt = omega (arith, lt, length-map vs (new_value r))

  abbrev old_names : EncValue-F EncValue Element Note → List Named
  old_names x = names_of_value (folds.map-EncValue EncValue Element Note (List Named) (List Named) (List Named) value_names element_names note_names x)

  abbrev plain : EncValue-F ((v : EncValue) × V v) ((e : Element) × E e) ((k : Note) × N k) → EncValue-F EncValue Element Note
  plain y = folds.map-EncValue ((v : EncValue) × V v) ((e : Element) × E e) ((k : Note) × N k) EncValue Element Note (λ e. e.0) (λ e. e.0) (λ e. e.0) y

  layer_fit : (y : EncValue-F ((v : EncValue) × V v) ((e : Element) × E e) ((k : Note) × N k)) (depth : ℕ) → names_fit (value_fits depth p) p (plain y) ≡ true → IsWideLayer (IsWide depth) (plain y) → AllUsed (old_names (plain y))
      → LayerFits sizes (ValueFits sizes depth) (new_open r (plain y))
  layer_fit (layer.Byte x) depth f w u = w
  layer_fit (layer.Short x) depth f w u = w
  layer_fit (layer.Char x) depth f w u = w
  layer_fit (layer.Int x) depth f w u = w
  layer_fit (layer.Long x) depth f w u = w
  layer_fit (layer.Float x) depth f w u = w
  layer_fit (layer.Double x) depth f w u = w
  layer_fit (layer.Str k) depth f w u = lands.strings k (u (named.Text k) (inl refl)) f
  layer_fit (layer.Class k) depth f w u = lands.types k (u (named.Kind k) (inl refl)) f
  layer_fit (layer.Field k) depth f w u = lands.fields k (u (named.Field k) (inl refl)) f
  layer_fit (layer.Method k) depth f w u = lands.methods k (u (named.Method k) (inl refl)) f
  layer_fit (layer.Enum k) depth f w u = lands.fields k (u (named.Field k) (inl refl)) f
  layer_fit (layer.Array vs) depth f w u = (as_many (map (λ e. e.0) vs) w.0, values_fit vs depth f w.1 u)
  layer_fit (layer.Annotation k) depth f w u = k.1 depth f w u
  layer_fit layer.Null depth f w u = tt
  layer_fit (layer.Bool b) depth f w u = tt

  value_step : (x : EncValue-F EncValue Element Note) (y : EncValue-F ((v : EncValue) × V v) ((e : Element) × E e) ((k : Note) × N k)) → plain y ≡ x → V (roll-EncValue x)
  value_step x y is zero f w u = absurd cc
  value_step x y is (suc depth) f w u =
      let fits : names_fit (value_fits depth p) p x ≡ true = subst (λ z. names_fit (value_fits depth p) p z ≡ true) (out-roll-EncValue x) f in
      let wide : IsWideLayer (IsWide depth) x = subst (λ z. IsWideLayer (IsWide depth) z) (out-roll-EncValue x) w in
      let names : AllUsed (old_names x) = subst AllUsed (value_named x) u in
      let on : names_fit (value_fits depth p) p x ≡ true → IsWideLayer (IsWide depth) x → AllUsed (old_names x) → LayerFits sizes (ValueFits sizes depth) (new_open r x) =
      subst (λ z. names_fit (value_fits depth p) p z ≡ true → IsWideLayer (IsWide depth) z → AllUsed (old_names z) → LayerFits sizes (ValueFits sizes depth) (new_open r z)) is (layer_fit y depth) in
      subst (λ z. LayerFits sizes (ValueFits sizes depth) z) (sym (ap (λ (v : EncValue). out-EncValue v) (newly r x) ∙ out-roll-EncValue (new_open r x))) (on fits wide names)

  element_step : (e : Element) → V e.value → E e
  element_step e v depth f w u =
      let both = and_parts (has_string p e.name) (value_fits depth p e.value) f in
      let names : AllUsed (named.Text e.name ∷ value_names e.value) = subst AllUsed (element_named e) u in
      subst (λ (x : Element). (x.name < sizes.strings) × ValueFits sizes depth x.value) (sym (element_is r e)) (lands.strings e.name (names (named.Text e.name) (inl refl)) both.0, v depth both.1 w (λ n j. names n (inr j)))

  note_step : (class : ℕ) (es : List ((e : Element) × E e)) → N (roll-Note (record { class = class; elements = map (λ e. e.0) es }))
  note_step class es depth f w u =
      let old : List Element = map (λ e. e.0) es in
      let given : Note-F EncValue Element Note = record { class = class; elements = old } in
      let out : out-Note (roll-Note given) ≡ given = out-roll-Note given in
      let fits : (has_type p class && (list_all (element_fits (value_fits depth p) p) old && list_all named_in_order (neighbours old))) ≡ true = subst (λ (z : Note-F EncValue Element Note). (has_type p z.class && (list_all (element_fits (value_fits depth p) p) z.elements && list_all named_in_order (neighbours z.elements))) ≡ true) out f in
      let wide : (length old < 2 ^ 32) × AllByRecursion (λ (e : Element). IsWide depth e.value) old = subst (λ (z : Note-F EncValue Element Note). (length z.elements < 2 ^ 32) × AllByRecursion (λ (e : Element). IsWide depth e.value) z.elements) out w in
      let a = and_parts (has_type p class) (list_all (element_fits (value_fits depth p) p) old && list_all named_in_order (neighbours old)) fits in
      let b = and_parts (list_all (element_fits (value_fits depth p) p) old) (list_all named_in_order (neighbours old)) a.1 in
      let names : AllUsed (named.Kind class ∷ joined (map element_names old)) = subst AllUsed (note_named class old) u in
      let up : Ascends element_below (map (element_of r) old) = elements_ascend p r UsedText rises depth old b.0 b.1 (λ n j. names (named.Text n) (inr j)) in
      let fresh : Note-F EncValue Element Note = record { class = new_type r class; elements = map (element_of r) old } in
      let is : note_of r (roll-Note (record { class = class; elements = old })) ≡ roll-Note fresh = note_is r class old ∙ ap (λ (l : List Element). roll-Note (record { class = new_type r class; elements = l })) (order_stays element_below (map (element_of r) old) up) in
      let back : fresh ≡ out-Note (note_of r (roll-Note (record { class = class; elements = old }))) = sym (ap (λ (k : Note). out-Note k) is ∙ out-roll-Note fresh) in
      record {
        class = subst (λ (z : Note-F EncValue Element Note). z.class < sizes.types) back (lands.types class (names (named.Kind class) (inl refl)) a.0);
        few = subst (λ (z : Note-F EncValue Element Note). length z.elements < 2 ^ 32) back (omega (arith, wide.0, length-map old (element_of r)));
        elements = subst (λ (z : Note-F EncValue Element Note). AllByRecursion (λ (e : Element). (e.name < sizes.strings) × ValueFits sizes depth e.value) z.elements) back (elements_fit es depth b.0 wide.1 (λ n j. names n (inr j)));
        ascend = subst (λ (z : Note-F EncValue Element Note). Ascends element_below z.elements) back up;
      }

  pub value_new_fits : (v : EncValue) → V v
  value_new_fits = ind-EncValue V E N value_step
      (λ x y is. element_step (record { name = x.name; value = x.value }) (subst V (ap (λ z. z.value) is) y.value.1))
      (λ x y is. subst (λ z. N (roll-Note z)) is (note_step y.class y.elements))

  pub note_new_fits : (k : Note) → N k
  note_new_fits = ind-Note V E N value_step
      (λ x y is. element_step (record { name = x.name; value = x.value }) (subst V (ap (λ z. z.value) is) y.value.1))
      (λ x y is. subst (λ z. N (roll-Note z)) is (note_step y.class y.elements))

  pub mark_new_fits : (m : Mark) → mark_fits p m ≡ true → IsWideMark m → AllUsed (mark_names m) → MarkFits sizes (new_mark r m)
  unfolding mark_fits
  mark_new_fits m f w u = note_new_fits m.note 64 f w u
