-- Annotations and first values name what they named: none names a method that is made static.
use Rattle.std.proofs.Common.{◌≡◌, ℕ, zero, suc, Bool, true, false, true≢false, List, [], ◌∷◌, map, Option, Some, None, refl, sym, ap, ◌∙◌, subst}
use std.Path.{fun_ext}
use Rattle.std.specs.Prelude.{◌&&◌, length, is_some, slice_get, if◌then◌else◌}
use Rattle.std.specs.List.{list_all}
use Rattle.std.specs.Option.{option_map}
use Rattle.program_model.specs.MemberRules.{field_letter, first_value_fits, is_static}
use Rattle.program_model.specs.Neighbours.{neighbours}
use Rattle.program_model.specs.Texts.{has_string, has_type, is_reference}
use Rattle.program_model.specs.ValueRules.{element_fits, first_fits, layer_fits, marks_fit, named_in_order, names_fit, note_fits, value_fits}
use Rattle.program_model.specs.declared.program.Field.{Field}
use Rattle.program_model.specs.declared.program.Program.{Program}
use Rattle.program_model.specs.declared.value.Element.{Element, fold-Element, fold_out-Element}
use Rattle.program_model.specs.declared.value.EncValue.{EncValue, EncValue-F, out-EncValue, fold_out-EncValue}
use Rattle.program_model.specs.declared.value.EncValue.TheFolds as folds
use Rattle.program_model.specs.declared.value.EncValue.TheOpen as layer
use Rattle.program_model.specs.declared.value.Mark.{Mark}
use Rattle.program_model.specs.declared.value.Note.{Note, Note-F, out-Note, fold_out-Note}
use Rattle.class_defs.proofs.WellFormed.{and_left, and_right, below}
use Rattle.dalvik_defs.specs.Names.{Text}
use Rattle.dalvik_defs.specs.Naming.{text_at, type_at, field_at, method_at, value_layer, element_layer, note_layer, value_of, note_of, mark_of}
use Rattle.dalvik_defs.specs.declared.encoded.NamedElement.{NamedElement}
use Rattle.dalvik_defs.specs.declared.encoded.NamedMark.{NamedMark}
use Rattle.dalvik_defs.specs.declared.encoded.NamedNote.{NamedNote, roll-NamedNote}
use Rattle.dalvik_defs.specs.declared.encoded.NamedValue.{NamedValue}
use Rattle.dalvik_defs.specs.declared.encoded.NamedValue.TheVariants as value
use Rattle.run_laws.specs.Holds.{Each}
use Rattle.name_bridge.proofs.Tables.{Sound}
use Rattle.pass_defs.specs.Loose.{new_key}
use Rattle.removal_law.proofs.Lists.{clash}
use Rattle.static_law.specs.Edited.{IsEdited, layer_names, marks_name, note_names, value_names}
use Rattle.static_law.proofs.Fitting.{marks_each}
use Rattle.static_law.proofs.Tables.{text_same, type_same, field_same, method_same_at, key_edited}

abbrev element_of : Program → Element → NamedElement
element_of p e = fold-Element NamedValue NamedElement NamedNote (value_layer p) (element_layer p) (note_layer p) e

abbrev element_by : Text → NamedValue → NamedElement
element_by t v = record { name = t; value = v }

-- a layer with what the values, elements and annotations in it name
abbrev layer_named : Program → EncValue-F EncValue Element Note → EncValue-F NamedValue NamedElement NamedNote
layer_named p x = folds.map-EncValue EncValue Element Note NamedValue NamedElement NamedNote (value_of p) (element_of p) (note_of p) x

module _ (given target : ℕ → Option ℕ) (p q : Program) (s : Sound p) (edited : IsEdited given target p q) (inside : (n k : ℕ) → given n ≡ Some k → slice_get p.methods n ≡ None → ⊥) where
  abbrev Stays : ℕ → Type 0
  Stays n = given n ≡ None

  method_stays : (n : ℕ) → given n ≡ None → method_at q n ≡ method_at p n
  method_stays n e = method_same_at given target p q s edited inside n ∙ ap (λ o. if is_some o then new_key (method_at p n) else method_at p n) e

  -- what is named the same
  abbrev SameValue : EncValue → Type 0
  SameValue v = value_of q v ≡ value_of p v

  values_same : (inner : EncValue → Bool) (P : EncValue → Type 0) → ((v : EncValue) → inner v ≡ true → P v → SameValue v) → (vs : List EncValue) → list_all inner vs ≡ true → Each P vs → map (value_of q) vs ≡ map (value_of p) vs
  values_same inner P same [] h n = refl
  values_same inner P same (v ∷ vs) h n = ap (λ x. x ∷ map (value_of q) vs) (same v (and_left (inner v) (list_all inner vs) h) n.0)
      ∙ ap (λ xs. value_of p v ∷ xs) (values_same inner P same vs (and_right (inner v) (list_all inner vs) h) n.1)

  element_same : (e : Element) → has_string p e.name ≡ true → SameValue e.value → element_of q e ≡ element_of p e
  element_same e h same =
      fold_out-Element NamedValue NamedElement NamedNote (value_layer q) (element_layer q) (note_layer q) e
      ∙ (ap (λ (t : Text). element_by t (value_of q e.value)) (text_same given target p q s edited e.name (below e.name (length p.strings) h))
      ∙ (ap (λ (v : NamedValue). element_by (text_at p e.name) v) same
      ∙ sym (fold_out-Element NamedValue NamedElement NamedNote (value_layer p) (element_layer p) (note_layer p) e)))

  elements_same : (inner : EncValue → Bool) (P : EncValue → Type 0) → ((v : EncValue) → inner v ≡ true → P v → SameValue v) → (es : List Element) → list_all (element_fits inner p) es ≡ true → Each (λ (e : Element). P e.value) es → map (element_of q) es ≡ map (element_of p) es
  elements_same inner P same [] h n = refl
  elements_same inner P same (e ∷ es) h n =
      let one = and_left (element_fits inner p e) (list_all (element_fits inner p) es) h in
      ap (λ x. x ∷ map (element_of q) es) (element_same e (and_left (has_string p e.name) (inner e.value) one) (same e.value (and_right (has_string p e.name) (inner e.value) one) n.0))
      ∙ ap (λ xs. element_of p e ∷ xs) (elements_same inner P same es (and_right (element_fits inner p e) (list_all (element_fits inner p) es) h) n.1)

  note_same : (inner : EncValue → Bool) (P : EncValue → Type 0) → ((v : EncValue) → inner v ≡ true → P v → SameValue v) → (n : Note) → note_fits inner p n ≡ true → Each (λ (e : Element). P e.value) (out-Note n).elements → note_of q n ≡ note_of p n
  note_same inner P same n h names =
      fold_out-Note NamedValue NamedElement NamedNote (value_layer q) (element_layer q) (note_layer q) n
      ∙ (ap (λ (t : Text). roll-NamedNote (record { class = t; elements = map (element_of q) (out-Note n).elements })) (type_same given target p q s edited (out-Note n).class)
      ∙ (ap (λ (es : List NamedElement). roll-NamedNote (record { class = type_at p (out-Note n).class; elements = es }))
      (elements_same inner P same (out-Note n).elements (and_left (list_all (element_fits inner p) (out-Note n).elements) (list_all named_in_order (neighbours (out-Note n).elements))
      (and_right (has_type p (out-Note n).class) (list_all (element_fits inner p) (out-Note n).elements && list_all named_in_order (neighbours (out-Note n).elements)) h)) names)
      ∙ sym (fold_out-Note NamedValue NamedElement NamedNote (value_layer p) (element_layer p) (note_layer p) n)))

  layer_same : (inner : EncValue → Bool) (P : EncValue → Type 0) → ((v : EncValue) → inner v ≡ true → P v → SameValue v) → (x : EncValue-F EncValue Element Note) → names_fit inner p x ≡ true → layer_names P Stays x
      → value_layer q (layer_named q x) ≡ value_layer p (layer_named p x)
  layer_same inner P same (layer.Byte x) h n = refl
  layer_same inner P same (layer.Short x) h n = refl
  layer_same inner P same (layer.Char x) h n = refl
  layer_same inner P same (layer.Int x) h n = refl
  layer_same inner P same (layer.Long x) h n = refl
  layer_same inner P same (layer.Float x) h n = refl
  layer_same inner P same (layer.Double x) h n = refl
  layer_same inner P same (layer.Str k) h n = ap (λ t. value.Str t) (text_same given target p q s edited k (below k (length p.strings) h))
  layer_same inner P same (layer.Class k) h n = ap (λ t. value.Class t) (type_same given target p q s edited k)
  layer_same inner P same (layer.Field k) h n = ap (λ f. value.Field f) (field_same given target p q s edited k)
  layer_same inner P same (layer.Method k) h n = ap (λ m. value.Method m) (method_stays k n)
  layer_same inner P same (layer.Enum k) h n = ap (λ f. value.Enum f) (field_same given target p q s edited k)
  layer_same inner P same (layer.Array vs) h n = ap (λ xs. value.Array xs) (values_same inner P same vs h n)
  layer_same inner P same (layer.Annotation note) h n = ap (λ x. value.Annotation x) (note_same inner P same note h n)
  layer_same inner P same layer.Null h n = refl
  layer_same inner P same (layer.Bool b) h n = refl

  value_same : (depth : ℕ) (v : EncValue) → value_fits depth p v ≡ true → value_names Stays depth v → SameValue v
  value_same zero v h n = absurd (true≢false (sym h))
  value_same (suc depth) v h n =
      fold_out-EncValue NamedValue NamedElement NamedNote (value_layer q) (element_layer q) (note_layer q) v
      ∙ (layer_same (value_fits depth p) (value_names Stays depth) (value_same depth) (out-EncValue v) h n
      ∙ sym (fold_out-EncValue NamedValue NamedElement NamedNote (value_layer p) (element_layer p) (note_layer p) v))

  -- ---- annotations

  mark_same : (m : Mark) → note_fits (value_fits 64 p) p m.note ≡ true → note_names Stays m.note → mark_of q m ≡ mark_of p m
  mark_same m h n = ap (λ x. record { visibility = m.visibility; note = x }) (note_same (value_fits 64 p) (value_names Stays 64) (value_same 64) m.note h n)

  pub marks_same : (ms : List Mark) → marks_fit p ms ≡ true → marks_name Stays ms → map (mark_of q) ms ≡ map (mark_of p) ms
  marks_same ms h n = each ms (marks_each p ms h) n
    where
      each : (ms : List Mark) → Each (λ (m : Mark). note_fits (value_fits 64 p) p m.note ≡ true) ms → marks_name Stays ms → map (mark_of q) ms ≡ map (mark_of p) ms
      each [] h n = refl
      each (m ∷ ms) h n = ap (λ x. x ∷ map (mark_of q) ms) (mark_same m h.0 n.0) ∙ ap (λ xs. mark_of p m ∷ xs) (each ms h.1 n.1)

  pub all_marks_same : (mss : List (List Mark)) → list_all (marks_fit p) mss ≡ true → Each (marks_name Stays) mss → map (map (mark_of q)) mss ≡ map (map (mark_of p)) mss
  all_marks_same [] h n = refl
  all_marks_same (ms ∷ mss) h n = ap (λ x. x ∷ map (map (mark_of q)) mss) (marks_same ms (and_left (marks_fit p ms) (list_all (marks_fit p) mss) h) n.0)
      ∙ ap (λ xs. map (mark_of p) ms ∷ xs) (all_marks_same mss (and_right (marks_fit p ms) (list_all (marks_fit p) mss) h) n.1)

  -- ---- first values, which name texts and types alone

  first_layer : (letter : ℕ) (x : EncValue-F EncValue Element Note) → layer_fits p letter x ≡ true → value_layer q (layer_named q x) ≡ value_layer p (layer_named p x)
  first_layer letter (layer.Byte x) h = refl
  first_layer letter (layer.Short x) h = refl
  first_layer letter (layer.Char x) h = refl
  first_layer letter (layer.Int x) h = refl
  first_layer letter (layer.Long x) h = refl
  first_layer letter (layer.Float x) h = refl
  first_layer letter (layer.Double x) h = refl
  first_layer letter (layer.Str k) h = ap (λ t. value.Str t) (text_same given target p q s edited k (below k (length p.strings) (and_right (is_reference letter) (has_string p k) h)))
  first_layer letter (layer.Class k) h = ap (λ t. value.Class t) (type_same given target p q s edited k)
  first_layer letter (layer.Field k) h = absurd (true≢false (sym h))
  first_layer letter (layer.Method k) h = absurd (true≢false (sym h))
  first_layer letter (layer.Enum k) h = absurd (true≢false (sym h))
  first_layer letter (layer.Array vs) h = absurd (true≢false (sym h))
  first_layer letter (layer.Annotation note) h = absurd (true≢false (sym h))
  first_layer letter layer.Null h = refl
  first_layer letter (layer.Bool b) h = refl

  pub first_same : (f : Field) → first_value_fits p f.flags f.name f.first ≡ true → option_map (value_of q) f.first ≡ option_map (value_of p) f.first
  first_same f h = by f.first h
    where
      by : (o : Option EncValue) → first_value_fits p f.flags f.name o ≡ true → option_map (value_of q) o ≡ option_map (value_of p) o
      by None h = refl
      by (Some v) h = ap (λ x. Some x)
          (fold_out-EncValue NamedValue NamedElement NamedNote (value_layer q) (element_layer q) (note_layer q) v
          ∙ (first_layer (field_letter p (slice_get p.fields f.name)) (out-EncValue v) (and_right (is_static f.flags) (first_fits p (field_letter p (slice_get p.fields f.name)) v) h)
          ∙ sym (fold_out-EncValue NamedValue NamedElement NamedNote (value_layer p) (element_layer p) (note_layer p) v)))
