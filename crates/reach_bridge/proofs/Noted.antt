-- What annotations and first values name, by number and by name.
use Rattle.std.proofs.Common.{◌≡◌, ℕ, inl, inr, List, [], ◌∷◌, ◌++◌, map, Option, Some, None, sym, ap, ◌∙◌, subst}
use Rattle.std.specs.Prelude.{flat_map}
use Rattle.std.specs.Option.{option_map}
use Rattle.program_model.specs.declared.value.EncValue.{EncValue, EncValue-F, roll-EncValue, fold-roll-EncValue}
use Rattle.program_model.specs.declared.value.EncValue.TheOpen as layer
use Rattle.program_model.specs.declared.value.EncValue.TheFolds as folds
use Rattle.program_model.specs.declared.value.EncValue.TheFolds.{ind-EncValue, ind-Note}
use Rattle.program_model.specs.declared.value.Element.{Element, fold-Element, fold_out-Element}
use Rattle.program_model.specs.declared.value.Note.{Note, roll-Note, fold-roll-Note}
use Rattle.program_model.specs.declared.value.Mark.{Mark}
use Rattle.program_model.specs.declared.program.Program.{Program}
use Rattle.call_graph.specs.declared.named.Named.{Named}
use Rattle.call_graph.specs.declared.named.Named.TheVariants as item
use Rattle.call_graph.specs.declared.live_set.LiveSet.{LiveSet}
use Rattle.call_graph.specs.Names.{joined, names_of_value, names_of_element, names_of_note, value_names, element_names, note_names, mark_names, marks_names, first_names}
use Rattle.dalvik_defs.specs.Naming.{type_at, field_at, method_at, value_of, note_of, mark_of}
use Rattle.dalvik_defs.specs.Naming as naming
use Rattle.dalvik_defs.specs.declared.encoded.NamedValue.{NamedValue, fold-roll-NamedValue}
use Rattle.dalvik_defs.specs.declared.encoded.NamedValue.TheVariants as variant
use Rattle.dalvik_defs.specs.declared.encoded.NamedValue.TheOpen as named_layer
use Rattle.dalvik_defs.specs.declared.encoded.NamedNote.{NamedNote, fold-roll-NamedNote}
use Rattle.dalvik_defs.specs.declared.encoded.NamedElement.{NamedElement, fold-NamedElement, fold_out-NamedElement}
use Rattle.pass_defs.specs.Mentions.{Mentions, none, all_of, a_type, a_field, a_method, value_layer, note_layer, in_value, in_note, in_marks, in_first}
use Rattle.removal_law.proofs.Lists.{here, in_front, in_back, in_either}
use Rattle.reach_bridge.proofs.Mentioned.{Holds, nothing_in}
use Rattle.reach_bridge.proofs.Coded.{NamesHeld}

-- ---- what holds of parts holds of all

pub none_holds : (p : Program) (s : LiveSet) → Holds p s none
none_holds p s = record { types = λ t i. nothing_in t i; fields = λ k i. nothing_in k i; methods = λ k i. nothing_in k i }

pub holds_more : (p : Program) (s : LiveSet) (m : Mentions) (ms : List Mentions) → Holds p s m → Holds p s (all_of ms) → Holds p s (all_of (m ∷ ms))
holds_more p s m ms a b = record {
  types = λ t i. elim (in_either t m.types (flat_map (λ m. m.types) ms) i) [ inl j ↦ a.types t j | inr j ↦ b.types t j ];
  fields = λ k i. elim (in_either k m.fields (flat_map (λ m. m.fields) ms) i) [ inl j ↦ a.fields k j | inr j ↦ b.fields k j ];
  methods = λ k i. elim (in_either k m.methods (flat_map (λ m. m.methods) ms) i) [ inl j ↦ a.methods k j | inr j ↦ b.methods k j ];
}

pub held_front : (p : Program) (s : LiveSet) (xs ys : List Named) → NamesHeld p s (xs ++ ys) → NamesHeld p s xs
held_front p s xs ys h x i = h x (in_front x xs ys i)

pub held_back : (p : Program) (s : LiveSet) (xs ys : List Named) → NamesHeld p s (xs ++ ys) → NamesHeld p s ys
held_back p s xs ys h x i = h x (in_back x xs ys i)

-- ---- one layer

abbrev element_of : Program → Element → NamedElement
element_of p e = fold-Element NamedValue NamedElement NamedNote (naming.value_layer p) (naming.element_layer p) (naming.note_layer p) e

abbrev in_element : NamedElement → Mentions
in_element e = fold-NamedElement Mentions Mentions Mentions value_layer (λ e. e.value) note_layer e

element_is : (p : Program) (e : Element) → in_element (element_of p e) ≡ in_value (value_of p e.value)
element_is p e =
    ap (λ (z : NamedElement). in_element z) (fold_out-Element NamedValue NamedElement NamedNote (naming.value_layer p) (naming.element_layer p) (naming.note_layer p) e)
    ∙ fold_out-NamedElement Mentions Mentions Mentions value_layer (λ e. e.value) note_layer (record { name = naming.text_at p e.name; value = value_of p e.value })

element_named : (e : Element) → element_names e ≡ value_names e.value
unfolding element_names value_names
element_named e = fold_out-Element (List Named) (List Named) (List Named) names_of_value names_of_element names_of_note e

value_named : (x : EncValue-F EncValue Element Note) → value_names (roll-EncValue x) ≡ names_of_value (folds.map-EncValue EncValue Element Note (List Named) (List Named) (List Named) value_names element_names note_names x)
unfolding value_names element_names note_names
value_named x = fold-roll-EncValue (List Named) (List Named) (List Named) names_of_value names_of_element names_of_note x

note_named : (class : ℕ) (es : List Element) → note_names (roll-Note (record { class = class; elements = es })) ≡ item.Kind class ∷ joined (map element_names es)
unfolding element_names note_names
note_named class es = fold-roll-Note (List Named) (List Named) (List Named) names_of_value names_of_element names_of_note (record { class = class; elements = es })

note_is : (p : Program) (class : ℕ) (es : List Element) → in_note (note_of p (roll-Note (record { class = class; elements = es }))) ≡ all_of (a_type (type_at p class) ∷ map in_element (map (element_of p) es))
note_is p class es =
    ap (λ (z : NamedNote). in_note z) (fold-roll-Note NamedValue NamedElement NamedNote (naming.value_layer p) (naming.element_layer p) (naming.note_layer p) (record { class = class; elements = es }))
    ∙ fold-roll-NamedNote Mentions Mentions Mentions value_layer (λ e. e.value) note_layer (record { class = type_at p class; elements = map (element_of p) es })

-- what a layer of a value mentions
abbrev layer_mentions : Program → EncValue-F EncValue Element Note → Mentions
layer_mentions p (layer.Class n) = a_type (type_at p n)
layer_mentions p (layer.Field n) = a_field (field_at p n)
layer_mentions p (layer.Enum n) = a_field (field_at p n)
layer_mentions p (layer.Method n) = a_method (method_at p n)
layer_mentions p (layer.Array vs) = all_of (map in_value (map (value_of p) vs))
layer_mentions p (layer.Annotation n) = in_note (note_of p n)
layer_mentions p v = none

named_value : (p : Program) (x : EncValue-F EncValue Element Note) → value_of p (roll-EncValue x) ≡ naming.value_layer p (folds.map-EncValue EncValue Element Note NamedValue NamedElement NamedNote (value_of p) (element_of p) (note_of p) x)
named_value p x = fold-roll-EncValue NamedValue NamedElement NamedNote (naming.value_layer p) (naming.element_layer p) (naming.note_layer p) x

value_is : (p : Program) (x : EncValue-F EncValue Element Note) → in_value (value_of p (roll-EncValue x)) ≡ layer_mentions p x
value_is p (layer.Byte x) = ap (λ (z : NamedValue). in_value z) (named_value p (layer.Byte x)) ∙ ap (λ (z : NamedValue). in_value z) (sym (variant.rolls-Byte x)) ∙ fold-roll-NamedValue Mentions Mentions Mentions value_layer (λ e. e.value) note_layer (named_layer.Byte x)
value_is p (layer.Short x) = ap (λ (z : NamedValue). in_value z) (named_value p (layer.Short x)) ∙ ap (λ (z : NamedValue). in_value z) (sym (variant.rolls-Short x)) ∙ fold-roll-NamedValue Mentions Mentions Mentions value_layer (λ e. e.value) note_layer (named_layer.Short x)
value_is p (layer.Char x) = ap (λ (z : NamedValue). in_value z) (named_value p (layer.Char x)) ∙ ap (λ (z : NamedValue). in_value z) (sym (variant.rolls-Char x)) ∙ fold-roll-NamedValue Mentions Mentions Mentions value_layer (λ e. e.value) note_layer (named_layer.Char x)
value_is p (layer.Int x) = ap (λ (z : NamedValue). in_value z) (named_value p (layer.Int x)) ∙ ap (λ (z : NamedValue). in_value z) (sym (variant.rolls-Int x)) ∙ fold-roll-NamedValue Mentions Mentions Mentions value_layer (λ e. e.value) note_layer (named_layer.Int x)
value_is p (layer.Long x) = ap (λ (z : NamedValue). in_value z) (named_value p (layer.Long x)) ∙ ap (λ (z : NamedValue). in_value z) (sym (variant.rolls-Long x)) ∙ fold-roll-NamedValue Mentions Mentions Mentions value_layer (λ e. e.value) note_layer (named_layer.Long x)
value_is p (layer.Float x) = ap (λ (z : NamedValue). in_value z) (named_value p (layer.Float x)) ∙ ap (λ (z : NamedValue). in_value z) (sym (variant.rolls-Float x)) ∙ fold-roll-NamedValue Mentions Mentions Mentions value_layer (λ e. e.value) note_layer (named_layer.Float x)
value_is p (layer.Double x) = ap (λ (z : NamedValue). in_value z) (named_value p (layer.Double x)) ∙ ap (λ (z : NamedValue). in_value z) (sym (variant.rolls-Double x)) ∙ fold-roll-NamedValue Mentions Mentions Mentions value_layer (λ e. e.value) note_layer (named_layer.Double x)
value_is p (layer.Str n) = ap (λ (z : NamedValue). in_value z) (named_value p (layer.Str n)) ∙ ap (λ (z : NamedValue). in_value z) (sym (variant.rolls-Str (naming.text_at p n))) ∙ fold-roll-NamedValue Mentions Mentions Mentions value_layer (λ e. e.value) note_layer (named_layer.Str (naming.text_at p n))
value_is p (layer.Class n) = ap (λ (z : NamedValue). in_value z) (named_value p (layer.Class n)) ∙ ap (λ (z : NamedValue). in_value z) (sym (variant.rolls-Class (type_at p n))) ∙ fold-roll-NamedValue Mentions Mentions Mentions value_layer (λ e. e.value) note_layer (named_layer.Class (type_at p n))
value_is p (layer.Field n) = ap (λ (z : NamedValue). in_value z) (named_value p (layer.Field n)) ∙ ap (λ (z : NamedValue). in_value z) (sym (variant.rolls-Field (field_at p n))) ∙ fold-roll-NamedValue Mentions Mentions Mentions value_layer (λ e. e.value) note_layer (named_layer.Field (field_at p n))
value_is p (layer.Method n) = ap (λ (z : NamedValue). in_value z) (named_value p (layer.Method n)) ∙ ap (λ (z : NamedValue). in_value z) (sym (variant.rolls-Method (method_at p n))) ∙ fold-roll-NamedValue Mentions Mentions Mentions value_layer (λ e. e.value) note_layer (named_layer.Method (method_at p n))
value_is p (layer.Enum n) = ap (λ (z : NamedValue). in_value z) (named_value p (layer.Enum n)) ∙ ap (λ (z : NamedValue). in_value z) (sym (variant.rolls-Enum (field_at p n))) ∙ fold-roll-NamedValue Mentions Mentions Mentions value_layer (λ e. e.value) note_layer (named_layer.Enum (field_at p n))
value_is p (layer.Array vs) = ap (λ (z : NamedValue). in_value z) (named_value p (layer.Array vs)) ∙ ap (λ (z : NamedValue). in_value z) (sym (variant.rolls-Array (map (value_of p) vs))) ∙ fold-roll-NamedValue Mentions Mentions Mentions value_layer (λ e. e.value) note_layer (named_layer.Array (map (value_of p) vs))
value_is p (layer.Annotation n) = ap (λ (z : NamedValue). in_value z) (named_value p (layer.Annotation n)) ∙ ap (λ (z : NamedValue). in_value z) (sym (variant.rolls-Annotation (note_of p n))) ∙ fold-roll-NamedValue Mentions Mentions Mentions value_layer (λ e. e.value) note_layer (named_layer.Annotation (note_of p n))
value_is p layer.Null = ap (λ (z : NamedValue). in_value z) (named_value p layer.Null) ∙ ap (λ (z : NamedValue). in_value z) (sym variant.rolls-Null) ∙ fold-roll-NamedValue Mentions Mentions Mentions value_layer (λ e. e.value) note_layer named_layer.Null
value_is p (layer.Bool b) = ap (λ (z : NamedValue). in_value z) (named_value p (layer.Bool b)) ∙ ap (λ (z : NamedValue). in_value z) (sym (variant.rolls-Bool b)) ∙ fold-roll-NamedValue Mentions Mentions Mentions value_layer (λ e. e.value) note_layer (named_layer.Bool b)

-- ---- all layers

module _ (p : Program) (s : LiveSet) where
  abbrev V : EncValue → Type 0
  V v = NamesHeld p s (value_names v) → Holds p s (in_value (value_of p v))

  abbrev E : Element → Type 0
  E e = NamesHeld p s (element_names e) → Holds p s (in_element (element_of p e))

  abbrev N : Note → Type 0
  N n = NamesHeld p s (note_names n) → Holds p s (in_note (note_of p n))

  values_hold : (vs : List ((v : EncValue) × V v)) → NamesHeld p s (joined (map value_names (map (λ e. e.0) vs))) → Holds p s (all_of (map in_value (map (value_of p) (map (λ e. e.0) vs))))
  unfolding joined
  values_hold [] h = none_holds p s
  values_hold (v ∷ vs) h = holds_more p s (in_value (value_of p v.0)) (map in_value (map (value_of p) (map (λ e. e.0) vs)))
      (v.1 (held_front p s (value_names v.0) (joined (map value_names (map (λ e. e.0) vs))) h))
      (values_hold vs (held_back p s (value_names v.0) (joined (map value_names (map (λ e. e.0) vs))) h))

  elements_hold : (es : List ((e : Element) × E e)) → NamesHeld p s (joined (map element_names (map (λ e. e.0) es))) → Holds p s (all_of (map in_element (map (element_of p) (map (λ e. e.0) es))))
  unfolding joined
  elements_hold [] h = none_holds p s
  elements_hold (e ∷ es) h = holds_more p s (in_element (element_of p e.0)) (map in_element (map (element_of p) (map (λ e. e.0) es)))
      (e.1 (held_front p s (element_names e.0) (joined (map element_names (map (λ e. e.0) es))) h))
      (elements_hold es (held_back p s (element_names e.0) (joined (map element_names (map (λ e. e.0) es))) h))

  abbrev layer_names : EncValue-F EncValue Element Note → List Named
  layer_names x = names_of_value (folds.map-EncValue EncValue Element Note (List Named) (List Named) (List Named) value_names element_names note_names x)

  layer_holds : (y : EncValue-F ((v : EncValue) × V v) ((e : Element) × E e) ((n : Note) × N n))
      → NamesHeld p s (layer_names (folds.map-EncValue ((v : EncValue) × V v) ((e : Element) × E e) ((n : Note) × N n) EncValue Element Note (λ e. e.0) (λ e. e.0) (λ e. e.0) y))
      → Holds p s (layer_mentions p (folds.map-EncValue ((v : EncValue) × V v) ((e : Element) × E e) ((n : Note) × N n) EncValue Element Note (λ e. e.0) (λ e. e.0) (λ e. e.0) y))
  layer_holds (layer.Byte x) h = none_holds p s
  layer_holds (layer.Short x) h = none_holds p s
  layer_holds (layer.Char x) h = none_holds p s
  layer_holds (layer.Int x) h = none_holds p s
  layer_holds (layer.Long x) h = none_holds p s
  layer_holds (layer.Float x) h = none_holds p s
  layer_holds (layer.Double x) h = none_holds p s
  layer_holds (layer.Str n) h = none_holds p s
  layer_holds (layer.Class n) h = h (item.Kind n) (here [])
  layer_holds (layer.Field n) h = h (item.Field n) (here [])
  layer_holds (layer.Method n) h = h (item.Method n) (here [])
  layer_holds (layer.Enum n) h = h (item.Field n) (here [])
  layer_holds (layer.Array vs) h = values_hold vs h
  layer_holds (layer.Annotation n) h = n.1 h
  layer_holds layer.Null h = none_holds p s
  layer_holds (layer.Bool b) h = none_holds p s

  value_step : (x : EncValue-F EncValue Element Note) (y : EncValue-F ((v : EncValue) × V v) ((e : Element) × E e) ((n : Note) × N n))
      → folds.map-EncValue ((v : EncValue) × V v) ((e : Element) × E e) ((n : Note) × N n) EncValue Element Note (λ e. e.0) (λ e. e.0) (λ e. e.0) y ≡ x → V (roll-EncValue x)
  value_step x y is h = subst (Holds p s) (sym (value_is p x)) (subst (λ z. NamesHeld p s (layer_names z) → Holds p s (layer_mentions p z)) is (layer_holds y) (subst (NamesHeld p s) (value_named x) h))

  element_step : (e : Element) → V e.value → E e
  element_step e v h = subst (Holds p s) (sym (element_is p e)) (v (subst (NamesHeld p s) (element_named e) h))

  note_step : (class : ℕ) (es : List ((e : Element) × E e)) → N (roll-Note (record { class = class; elements = map (λ e. e.0) es }))
  note_step class es h = subst (Holds p s) (sym (note_is p class (map (λ e. e.0) es))) (by (subst (NamesHeld p s) (note_named class (map (λ e. e.0) es)) h))
    where
      by : NamesHeld p s (item.Kind class ∷ joined (map element_names (map (λ e. e.0) es))) → Holds p s (all_of (a_type (type_at p class) ∷ map in_element (map (element_of p) (map (λ e. e.0) es))))
      by h = holds_more p s (a_type (type_at p class)) (map in_element (map (element_of p) (map (λ e. e.0) es))) (h (item.Kind class) (here (joined (map element_names (map (λ e. e.0) es)))))
          (elements_hold es (held_back p s (item.Kind class ∷ []) (joined (map element_names (map (λ e. e.0) es))) h))

  -- what a value names
  pub value_holds : (v : EncValue) → V v
  value_holds = ind-EncValue V E N value_step
      (λ x y is. element_step (record { name = x.name; value = x.value }) (subst V (ap (λ z. z.value) is) y.value.1))
      (λ x y is. subst (λ z. N (roll-Note z)) is (note_step y.class y.elements))

  -- what an annotation names
  pub note_holds : (n : Note) → N n
  note_holds = ind-Note V E N value_step
      (λ x y is. element_step (record { name = x.name; value = x.value }) (subst V (ap (λ z. z.value) is) y.value.1))
      (λ x y is. subst (λ z. N (roll-Note z)) is (note_step y.class y.elements))

  -- ---- annotations of classes and members, and first values

  pub marks_hold : (ms : List Mark) → NamesHeld p s (marks_names ms) → Holds p s (in_marks (map (mark_of p) ms))
  marks_hold [] h = none_holds p s
  marks_hold (m ∷ ms) h = holds_more p s (in_note (note_of p m.note)) (map (λ m. in_note m.note) (map (mark_of p) ms))
      (note_holds m.note (held_front p s (mark_names m) (marks_names ms) h)) (marks_hold ms (held_back p s (mark_names m) (marks_names ms) h))

  pub first_holds : (v : Option EncValue) → NamesHeld p s (first_names v) → Holds p s (in_first (option_map (value_of p) v))
  first_holds None h = none_holds p s
  first_holds (Some v) h = value_holds v h
