-- What classes name, they name in the written program by its new number.
use Rattle.std.proofs.Common.{◌≡◌, ◌⊎◌, inl, inr, ⊎_elim, ℕ, Bool, List, [], ◌∷◌, ◌++◌, map, refl, sym, ap, subst, ◌∙◌, Option, Some, None}
use Rattle.std.specs.Option.{option_map}
use Rattle.std.specs.List.{flat_map}
use Rattle.insn_set.specs.declared.form.Insn.{Insn}
use Rattle.insn_set.specs.declared.form.Insn.TheVariants as insn
use Rattle.dex_pools.specs.declared.used.Named.{Named}
use Rattle.dex_pools.specs.declared.used.Named.TheVariants as named
use Rattle.dex_pools.specs.Used.{joined, names_of_value, names_of_element, names_of_note, value_names, element_names, note_names, mark_names, insn_names, handler_names, region_names, body_names, kind_names, marks_names, first_names, code_names, source_names, field_names, method_names, class_names}
use Rattle.program_model.specs.declared.pass.Renumber.{Renumber}
use Rattle.program_model.specs.declared.body.Handler.{Handler}
use Rattle.program_model.specs.declared.body.Region.{Region}
use Rattle.program_model.specs.declared.body.Body.{Body}
use Rattle.program_model.specs.declared.program.Field.{Field}
use Rattle.program_model.specs.declared.program.Method.{Method}
use Rattle.program_model.specs.declared.program.Class.{Class}
use Rattle.program_model.specs.declared.program.Program.{Program}
use Rattle.program_model.specs.declared.value.EncValue.{EncValue, EncValue-F, fold-EncValue, fold-roll-EncValue, roll-EncValue}
use Rattle.program_model.specs.declared.value.EncValue.TheOpen as layer
use Rattle.program_model.specs.declared.value.EncValue.TheVariants as variant
use Rattle.program_model.specs.declared.value.EncValue.TheFolds as folds
use Rattle.program_model.specs.declared.value.EncValue.TheFolds.{ind-EncValue, ind-Note}
use Rattle.program_model.specs.declared.value.Element.{Element, fold-Element, fold_out-Element}
use Rattle.program_model.specs.declared.value.Note.{Note, fold-Note, fold-roll-Note, roll-Note}
use Rattle.program_model.specs.declared.value.Mark.{Mark}
use Rattle.dex_pools.specs.Marks.{mark_below}
use Rattle.dex_pools.specs.Value.{element_below}
use Rattle.dex_defs.specs.Written.{in_order, new_string, new_type, new_field, new_method, new_layer, new_element, new_note, new_value, new_mark, new_marks, new_insn, new_handler, new_region, new_body, written_field, written_method, field_below, method_below, written_class}
use Rattle.write_laws.specs.Carried.{renamed}
use Rattle.written_file.proofs.In.{In, in_left, in_right, in_split, in_map, Source, in_source, in_flat, in_joined, in_order_has}

-- ---- values

pub element_named : (e : Element) → element_names e ≡ named.Text e.name ∷ value_names e.value
unfolding element_names value_names
element_named e = fold_out-Element (List Named) (List Named) (List Named) names_of_value names_of_element names_of_note e

pub value_named : (x : EncValue-F EncValue Element Note) → value_names (roll-EncValue x) ≡ names_of_value (folds.map-EncValue EncValue Element Note (List Named) (List Named) (List Named) value_names element_names note_names x)
unfolding value_names element_names note_names
value_named x = fold-roll-EncValue (List Named) (List Named) (List Named) names_of_value names_of_element names_of_note x

pub note_named : (class : ℕ) (es : List Element) → note_names (roll-Note (record { class = class; elements = es })) ≡ named.Kind class ∷ joined (map element_names es)
unfolding element_names note_names
note_named class es = fold-roll-Note (List Named) (List Named) (List Named) names_of_value names_of_element names_of_note (record { class = class; elements = es })

-- what elements and annotations become
abbrev pub element_of : Renumber → Element → Element
element_of r e = fold-Element EncValue Element Note (new_layer r) (new_element r) (new_note r) e

abbrev pub note_of : Renumber → Note → Note
note_of r n = fold-Note EncValue Element Note (new_layer r) (new_element r) (new_note r) n

pub element_is : (r : Renumber) (e : Element) → element_of r e ≡ new_element r (record { name = e.name; value = new_value r e.value })
element_is r e = fold_out-Element EncValue Element Note (new_layer r) (new_element r) (new_note r) e

pub note_is : (r : Renumber) (class : ℕ) (es : List Element) → note_of r (roll-Note (record { class = class; elements = es })) ≡ roll-Note (record { class = new_type r class; elements = in_order element_below (map (element_of r) es) })
note_is r class es = fold-roll-Note EncValue Element Note (new_layer r) (new_element r) (new_note r) (record { class = class; elements = es })

pub value_new : (r : Renumber) (x : EncValue-F EncValue Element Note) → new_value r (roll-EncValue x) ≡ new_layer r (folds.map-EncValue EncValue Element Note EncValue Element Note (new_value r) (element_of r) (note_of r) x)
value_new r x = fold-roll-EncValue EncValue Element Note (new_layer r) (new_element r) (new_note r) x

-- what a layer names when it is new
abbrev new_names : Renumber → EncValue-F EncValue Element Note → List Named
new_names r (layer.Str n) = named.Text (new_string r n) ∷ []
new_names r (layer.Class n) = named.Kind (new_type r n) ∷ []
new_names r (layer.Field n) = named.Field (new_field r n) ∷ []
new_names r (layer.Method n) = named.Method (new_method r n) ∷ []
new_names r (layer.Enum n) = named.Field (new_field r n) ∷ []
new_names r (layer.Array vs) = joined (map value_names (map (new_value r) vs))
new_names r (layer.Annotation n) = note_names (note_of r n)
new_names r v = []

one_named : (r : Renumber) (x y : EncValue-F EncValue Element Note) (ns : List Named) → new_value r (roll-EncValue x) ≡ roll-EncValue y → names_of_value (folds.map-EncValue EncValue Element Note (List Named) (List Named) (List Named) value_names element_names note_names y) ≡ ns → value_names (new_value r (roll-EncValue x)) ≡ ns
one_named r x y ns a b = ap value_names a ∙ (value_named y ∙ b)

newly_named : (r : Renumber) (x : EncValue-F EncValue Element Note) → value_names (new_value r (roll-EncValue x)) ≡ new_names r x
newly_named r (layer.Byte z) = one_named r (layer.Byte z) (layer.Byte z) [] (value_new r (layer.Byte z) ∙ sym (variant.rolls-Byte z)) refl
newly_named r (layer.Short z) = one_named r (layer.Short z) (layer.Short z) [] (value_new r (layer.Short z) ∙ sym (variant.rolls-Short z)) refl
newly_named r (layer.Char z) = one_named r (layer.Char z) (layer.Char z) [] (value_new r (layer.Char z) ∙ sym (variant.rolls-Char z)) refl
newly_named r (layer.Int z) = one_named r (layer.Int z) (layer.Int z) [] (value_new r (layer.Int z) ∙ sym (variant.rolls-Int z)) refl
newly_named r (layer.Long z) = one_named r (layer.Long z) (layer.Long z) [] (value_new r (layer.Long z) ∙ sym (variant.rolls-Long z)) refl
newly_named r (layer.Float z) = one_named r (layer.Float z) (layer.Float z) [] (value_new r (layer.Float z) ∙ sym (variant.rolls-Float z)) refl
newly_named r (layer.Double z) = one_named r (layer.Double z) (layer.Double z) [] (value_new r (layer.Double z) ∙ sym (variant.rolls-Double z)) refl
newly_named r (layer.Str n) = one_named r (layer.Str n) (layer.Str (new_string r n)) _ (value_new r (layer.Str n) ∙ sym (variant.rolls-Str (new_string r n))) refl
newly_named r (layer.Class n) = one_named r (layer.Class n) (layer.Class (new_type r n)) _ (value_new r (layer.Class n) ∙ sym (variant.rolls-Class (new_type r n))) refl
newly_named r (layer.Field n) = one_named r (layer.Field n) (layer.Field (new_field r n)) _ (value_new r (layer.Field n) ∙ sym (variant.rolls-Field (new_field r n))) refl
newly_named r (layer.Method n) = one_named r (layer.Method n) (layer.Method (new_method r n)) _ (value_new r (layer.Method n) ∙ sym (variant.rolls-Method (new_method r n))) refl
newly_named r (layer.Enum n) = one_named r (layer.Enum n) (layer.Enum (new_field r n)) _ (value_new r (layer.Enum n) ∙ sym (variant.rolls-Enum (new_field r n))) refl
newly_named r (layer.Array vs) = one_named r (layer.Array vs) (layer.Array (map (new_value r) vs)) _ (value_new r (layer.Array vs) ∙ sym (variant.rolls-Array (map (new_value r) vs))) refl
newly_named r (layer.Annotation n) = one_named r (layer.Annotation n) (layer.Annotation (note_of r n)) _ (value_new r (layer.Annotation n) ∙ sym (variant.rolls-Annotation (note_of r n))) refl
newly_named r layer.Null = one_named r layer.Null layer.Null [] (value_new r layer.Null ∙ sym variant.rolls-Null) refl
newly_named r (layer.Bool b) = one_named r (layer.Bool b) (layer.Bool b) [] (value_new r (layer.Bool b) ∙ sym (variant.rolls-Bool b)) refl

module _ (r : Renumber) where
  abbrev V : EncValue → Type 0
  V v = (n : Named) → In n (value_names v) → In (renamed r n) (value_names (new_value r v))

  abbrev E : Element → Type 0
  E e = (n : Named) → In n (element_names e) → In (renamed r n) (element_names (element_of r e))

  abbrev N : Note → Type 0
  N k = (n : Named) → In n (note_names k) → In (renamed r n) (note_names (note_of r k))

  values_in : (vs : List ((v : EncValue) × V v)) (n : Named) → In n (joined (map value_names (map (λ e. e.0) vs))) → In (renamed r n) (joined (map value_names (map (new_value r) (map (λ e. e.0) vs))))
  unfolding joined
  values_in [] n i = absurd i
  values_in (v ∷ vs) n i = elim (in_split n (value_names v.0) (joined (map value_names (map (λ e. e.0) vs))) i) [
    | inl j ↦ in_left (renamed r n) (value_names (new_value r v.0)) (joined (map value_names (map (new_value r) (map (λ e. e.0) vs)))) (v.1 n j)
    | inr j ↦ in_right (renamed r n) (value_names (new_value r v.0)) (joined (map value_names (map (new_value r) (map (λ e. e.0) vs)))) (values_in vs n j)
  ]

  -- an element of which it is a name
  record Holder (n : Named) (es : List Element) : Type 0 where
    e : Element
    is : In e (map (element_of r) es)
    has : In (renamed r n) (element_names e)

  elements_in : (es : List ((e : Element) × E e)) (n : Named) → In n (joined (map element_names (map (λ e. e.0) es))) → Holder n (map (λ e. e.0) es)
  unfolding joined
  elements_in [] n i = absurd i
  elements_in (e ∷ es) n i = elim (in_split n (element_names e.0) (joined (map element_names (map (λ x. x.0) es))) i) [
    | inl j ↦ record { e = element_of r e.0; is = inl refl; has = e.1 n j }
    | inr j ↦ further (elements_in es n j)
  ]
    where
      further : Holder n (map (λ x. x.0) es) → Holder n (e.0 ∷ map (λ x. x.0) es)
      further h = record { e = h.e; is = inr h.is; has = h.has }

  abbrev old_names : EncValue-F EncValue Element Note → List Named
  old_names x = names_of_value (folds.map-EncValue EncValue Element Note (List Named) (List Named) (List Named) value_names element_names note_names x)

  layer_in : (y : EncValue-F ((v : EncValue) × V v) ((e : Element) × E e) ((k : Note) × N k)) (n : Named)
      → In n (old_names (folds.map-EncValue ((v : EncValue) × V v) ((e : Element) × E e) ((k : Note) × N k) EncValue Element Note (λ e. e.0) (λ e. e.0) (λ e. e.0) y))
      → In (renamed r n) (new_names r (folds.map-EncValue ((v : EncValue) × V v) ((e : Element) × E e) ((k : Note) × N k) EncValue Element Note (λ e. e.0) (λ e. e.0) (λ e. e.0) y))
  layer_in (layer.Byte x) n i = absurd i
  layer_in (layer.Short x) n i = absurd i
  layer_in (layer.Char x) n i = absurd i
  layer_in (layer.Int x) n i = absurd i
  layer_in (layer.Long x) n i = absurd i
  layer_in (layer.Float x) n i = absurd i
  layer_in (layer.Double x) n i = absurd i
  layer_in (layer.Str k) n (inl e) = inl (ap (renamed r) e)
  layer_in (layer.Str k) n (inr i) = absurd i
  layer_in (layer.Class k) n (inl e) = inl (ap (renamed r) e)
  layer_in (layer.Class k) n (inr i) = absurd i
  layer_in (layer.Field k) n (inl e) = inl (ap (renamed r) e)
  layer_in (layer.Field k) n (inr i) = absurd i
  layer_in (layer.Method k) n (inl e) = inl (ap (renamed r) e)
  layer_in (layer.Method k) n (inr i) = absurd i
  layer_in (layer.Enum k) n (inl e) = inl (ap (renamed r) e)
  layer_in (layer.Enum k) n (inr i) = absurd i
  layer_in (layer.Array vs) n i = values_in vs n i
  layer_in (layer.Annotation k) n i = k.1 n i
  layer_in layer.Null n i = absurd i
  layer_in (layer.Bool b) n i = absurd i

  value_step : (x : EncValue-F EncValue Element Note) (y : EncValue-F ((v : EncValue) × V v) ((e : Element) × E e) ((k : Note) × N k))
      → folds.map-EncValue ((v : EncValue) × V v) ((e : Element) × E e) ((k : Note) × N k) EncValue Element Note (λ e. e.0) (λ e. e.0) (λ e. e.0) y ≡ x → V (roll-EncValue x)
  value_step x y is n i = subst (λ l. In (renamed r n) l) (sym (newly_named r x)) (subst (λ z. In n (old_names z) → In (renamed r n) (new_names r z)) is (layer_in y n) (subst (λ l. In n l) (value_named x) i))

  element_step : (e : Element) → V e.value → E e
  element_step e v n i = subst (λ l. In (renamed r n) l) (sym (ap element_names (element_is r e) ∙ element_named (new_element r (record { name = e.name; value = new_value r e.value })))) (by (subst (λ l. In n l) (element_named e) i))
    where
      by : In n (named.Text e.name ∷ value_names e.value) → In (renamed r n) (named.Text (new_string r e.name) ∷ value_names (new_value r e.value))
      by (inl s) = inl (ap (renamed r) s)
      by (inr j) = inr (v n j)

  note_step : (class : ℕ) (es : List ((e : Element) × E e)) → N (roll-Note (record { class = class; elements = map (λ e. e.0) es }))
  note_step class es n i = subst (λ l. In (renamed r n) l) (sym (ap note_names (note_is r class (map (λ e. e.0) es)) ∙ note_named (new_type r class) (in_order element_below (map (element_of r) (map (λ e. e.0) es))))) (by (subst (λ l. In n l) (note_named class (map (λ e. e.0) es)) i))
    where
      by : In n (named.Kind class ∷ joined (map element_names (map (λ e. e.0) es))) → In (renamed r n) (named.Kind (new_type r class) ∷ joined (map element_names (in_order element_below (map (element_of r) (map (λ e. e.0) es)))))
      by (inl s) = inl (ap (renamed r) s)
      by (inr j) = let h = elements_in es n j in inr (in_joined element_names (renamed r n) h.e (in_order element_below (map (element_of r) (map (λ e. e.0) es))) (in_order_has element_below h.e (map (element_of r) (map (λ e. e.0) es)) h.is) h.has)

  pub value_in : (v : EncValue) → V v
  value_in = ind-EncValue V E N value_step
      (λ x y is. element_step (record { name = x.name; value = x.value }) (subst V (ap (λ z. z.value) is) y.value.1))
      (λ x y is. subst (λ z. N (roll-Note z)) is (note_step y.class y.elements))

  pub note_in : (k : Note) → N k
  note_in = ind-Note V E N value_step
      (λ x y is. element_step (record { name = x.name; value = x.value }) (subst V (ap (λ z. z.value) is) y.value.1))
      (λ x y is. subst (λ z. N (roll-Note z)) is (note_step y.class y.elements))

  -- ---- annotations and code

  -- of each, whose names are among those of what it becomes
  flat_in : {X Y : Type 0} (f : X → Y) (names : X → List Named) (news : Y → List Named) → ((x : X) (n : Named) → In n (names x) → In (renamed r n) (news (f x))) → (xs : List X) (n : Named) → In n (flat_map names xs) → In (renamed r n) (flat_map news (map f xs))
  flat_in f names news each xs n i =
      let s : Source names n xs = in_source names n xs i in
      in_flat news (renamed r n) (f s.x) (map f xs) (in_map f s.x xs s.is) (each s.x n s.has)

  ordered_in : {X Y : Type 0} (below : Y → Y → Bool) (f : X → Y) (names : X → List Named) (news : Y → List Named) → ((x : X) (n : Named) → In n (names x) → In (renamed r n) (news (f x))) → (xs : List X) (n : Named) → In n (flat_map names xs) → In (renamed r n) (flat_map news (in_order below (map f xs)))
  ordered_in below f names news each xs n i =
      let s : Source names n xs = in_source names n xs i in
      in_flat news (renamed r n) (f s.x) (in_order below (map f xs)) (in_order_has below (f s.x) (map f xs) (in_map f s.x xs s.is)) (each s.x n s.has)

  mark_in : (m : Mark) (n : Named) → In n (mark_names m) → In (renamed r n) (mark_names (new_mark r m))
  mark_in m n i = note_in m.note n i

  marks_in : (ms : List Mark) (n : Named) → In n (marks_names ms) → In (renamed r n) (marks_names (new_marks r ms))
  marks_in ms n i = ordered_in mark_below (new_mark r) mark_names mark_names mark_in ms n i

  only_in : (k n : Named) → In n (k ∷ []) → In (renamed r n) (renamed r k ∷ [])
  only_in k n (inl e) = inl (ap (renamed r) e)
  only_in k n (inr i) = absurd i

  insn_in : (x : Insn) (n : Named) → In n (insn_names x) → In (renamed r n) (insn_names (new_insn r x))
  insn_in insn.Nop n i = absurd i
  insn_in (insn.Move slot to from) n i = absurd i
  insn_in (insn.MoveResult slot to) n i = absurd i
  insn_in (insn.MoveException to) n i = absurd i
  insn_in insn.ReturnVoid n i = absurd i
  insn_in (insn.Return slot from) n i = absurd i
  insn_in (insn.Const to value) n i = absurd i
  insn_in (insn.ConstWide to value) n i = absurd i
  insn_in (insn.ConstString to string) n i = only_in (named.Text string) n i
  insn_in (insn.ConstClass to kind) n i = only_in (named.Kind kind) n i
  insn_in (insn.MonitorEnter on) n i = absurd i
  insn_in (insn.MonitorExit on) n i = absurd i
  insn_in (insn.CheckCast on kind) n i = only_in (named.Kind kind) n i
  insn_in (insn.InstanceOf to from kind) n i = only_in (named.Kind kind) n i
  insn_in (insn.ArrayLength to from) n i = absurd i
  insn_in (insn.NewInstance to kind) n i = only_in (named.Kind kind) n i
  insn_in (insn.NewArray to size kind) n i = only_in (named.Kind kind) n i
  insn_in (insn.FilledNewArray kind args) n i = only_in (named.Kind kind) n i
  insn_in (insn.FillArray on width items) n i = absurd i
  insn_in (insn.Throw on) n i = absurd i
  insn_in (insn.Goto target) n i = absurd i
  insn_in (insn.PackedSwitch on first targets) n i = absurd i
  insn_in (insn.SparseSwitch on keys targets) n i = absurd i
  insn_in (insn.Cmp op to a b) n i = absurd i
  insn_in (insn.If test a b target) n i = absurd i
  insn_in (insn.IfZero test a target) n i = absurd i
  insn_in (insn.ArrayGet item to array index) n i = absurd i
  insn_in (insn.ArrayPut item from array index) n i = absurd i
  insn_in (insn.InstanceGet item to on field) n i = only_in (named.Field field) n i
  insn_in (insn.InstancePut item from on field) n i = only_in (named.Field field) n i
  insn_in (insn.StaticGet item to field) n i = only_in (named.Field field) n i
  insn_in (insn.StaticPut item from field) n i = only_in (named.Field field) n i
  insn_in (insn.Invoke kind method args) n i = only_in (named.Method method) n i
  insn_in (insn.Unary op to from) n i = absurd i
  insn_in (insn.Binary op to a b) n i = absurd i
  insn_in (insn.Literal op to a value) n i = absurd i

  handler_in : (h : Handler) (n : Named) → In n (handler_names h) → In (renamed r n) (handler_names (new_handler r h))
  handler_in h n i = only_in (named.Kind h.kind) n i

  region_in : (x : Region) (n : Named) → In n (region_names x) → In (renamed r n) (region_names (new_region r x))
  region_in x n i = flat_in (new_handler r) handler_names handler_names handler_in x.handlers n i

  body_in : (b : Body) (n : Named) → In n (body_names b) → In (renamed r n) (body_names (new_body r b))
  unfolding body_names
  body_in b n i = elim (in_split n (flat_map insn_names b.insns) (flat_map region_names b.regions) i) [
    | inl j ↦ in_left (renamed r n) (flat_map insn_names (map (new_insn r) b.insns)) (flat_map region_names (map (new_region r) b.regions)) (flat_in (new_insn r) insn_names insn_names insn_in b.insns n j)
    | inr j ↦ in_right (renamed r n) (flat_map insn_names (map (new_insn r) b.insns)) (flat_map region_names (map (new_region r) b.regions)) (flat_in (new_region r) region_names region_names region_in b.regions n j)
  ]

  code_in : (o : Option Body) (n : Named) → In n (code_names o) → In (renamed r n) (code_names (option_map (new_body r) o))
  code_in None n i = absurd i
  code_in (Some b) n i = body_in b n i

  first_in : (o : Option EncValue) (n : Named) → In n (first_names o) → In (renamed r n) (first_names (option_map (new_value r) o))
  first_in None n i = absurd i
  first_in (Some v) n i = value_in v n i

  source_in : (o : Option ℕ) (n : Named) → In n (source_names o) → In (renamed r n) (source_names (option_map (new_string r) o))
  source_in None n i = absurd i
  source_in (Some k) n i = only_in (named.Text k) n i

  -- ---- members and classes

  -- in one of two lists
  either_in : (n : Named) (ks ls ms os : List Named) → (In n ks → In (renamed r n) ms) → (In n ls → In (renamed r n) os) → In n (ks ++ ls) → In (renamed r n) (ms ++ os)
  either_in n ks ls ms os f g i = elim (in_split n ks ls i) [ inl j ↦ in_left (renamed r n) ms os (f j) | inr j ↦ in_right (renamed r n) ms os (g j) ]

  field_in : (x : Field) (n : Named) → In n (field_names x) → In (renamed r n) (field_names (written_field r x))
  unfolding field_names
  field_in x n (inl e) = inl (ap (renamed r) e)
  field_in x n (inr i) = inr (either_in n (first_names x.first) (marks_names x.marks) _ _ (λ j. first_in x.first n j) (λ j. marks_in x.marks n j) i)

  method_in : (x : Method) (n : Named) → In n (method_names x) → In (renamed r n) (method_names (written_method r x))
  unfolding method_names
  method_in x n (inl e) = inl (ap (renamed r) e)
  method_in x n (inr i) = inr (either_in n (marks_names x.marks) (flat_map marks_names x.parameter_marks ++ code_names x.body) _ _ (λ j. marks_in x.marks n j)
      (λ j. either_in n (flat_map marks_names x.parameter_marks) (code_names x.body) _ _ (λ k. flat_in (new_marks r) marks_names marks_names marks_in x.parameter_marks n k) (λ k. code_in x.body n k) j) i)

  pub class_in : (p : Program) (c : Class) (n : Named) → In n (class_names c) → In (renamed r n) (class_names (written_class r p c))
  unfolding class_names
  class_in p c n (inl e) = inl (ap (renamed r) e)
  class_in p c n (inr (inl e)) = inr (inl (ap (renamed r) e))
  class_in p c n (inr (inr i)) = inr (inr (either_in n (flat_map kind_names c.interfaces) (source_names c.source ++ (marks_names c.marks ++ (flat_map field_names c.fields ++ flat_map method_names c.methods))) _ _
      (λ j. flat_in (new_type r) kind_names kind_names (λ k m l. only_in (named.Kind k) m l) c.interfaces n j)
      (λ j. either_in n (source_names c.source) (marks_names c.marks ++ (flat_map field_names c.fields ++ flat_map method_names c.methods)) _ _ (λ k. source_in c.source n k)
      (λ k. either_in n (marks_names c.marks) (flat_map field_names c.fields ++ flat_map method_names c.methods) _ _ (λ l. marks_in c.marks n l)
      (λ l. either_in n (flat_map field_names c.fields) (flat_map method_names c.methods) _ _ (λ m. ordered_in field_below (written_field r) field_names field_names field_in c.fields n m) (λ m. methods_in p c.methods n m) l) k) j) i))
    where
      methods_in : (p : Program) (ms : List Method) (n : Named) → In n (flat_map method_names ms) → In (renamed r n) (flat_map method_names (map (written_method r) (in_order (method_below r p) ms)))
      methods_in p ms n i =
          let s : Source method_names n ms = in_source method_names n ms i in
          in_flat method_names (renamed r n) (written_method r s.x) (map (written_method r) (in_order (method_below r p) ms)) (in_map (written_method r) s.x (in_order (method_below r p) ms) (in_order_has (method_below r p) s.x ms s.is)) (method_in s.x n s.has)
