-- A first value of a well-formed program suits the type of its field.
use Rattle.std.proofs.Common.{◌≡◌, ℕ, pos, Bool, true, false, true≢false, Some, refl, sym, ap, ◌∙◌, subst}
use Rattle.std.specs.Prelude.{◌&&◌, not, nat_eq, slice_get, codes}
use Rattle.std.specs.List.{list_any}
use Rattle.std.specs.Int.{w32, w64, cast_unsigned}
use Rattle.std.specs.Ordering.{int_eq}
use Rattle.program_model.specs.MemberRules.{class_of_field, field_fits, field_letter, first_value_fits, is_class_number, is_static}
use Rattle.program_model.specs.Texts as texts
use Rattle.program_model.specs.Texts.{has_string, has_type, letter_of}
use Rattle.program_model.specs.ValueRules.{first_fits, layer_fits, marks_fit}
use Rattle.program_model.specs.declared.program.Field.{Field}
use Rattle.program_model.specs.declared.program.Program.{Program}
use Rattle.program_model.specs.declared.value.Element.{Element, fold-Element}
use Rattle.program_model.specs.declared.value.EncValue.{EncValue, EncValue-F, fold-roll-EncValue, roll-EncValue}
use Rattle.program_model.specs.declared.value.EncValue.TheOpen as layer
use Rattle.program_model.specs.declared.value.EncValue.TheViews.{out-roll-EncValue}
use Rattle.program_model.specs.declared.value.EncValue.TheFolds as folds
use Rattle.program_model.specs.declared.value.EncValue.TheFolds.{ind-EncValue}
use Rattle.program_model.specs.declared.value.Note.{Note}
use Rattle.class_defs.proofs.WellFormed.{and_left, and_right, Sound, FieldFits}
use Rattle.class_defs.proofs.Positions.{number_of}
use Rattle.dalvik_defs.specs.ActPlain.{truth}
use Rattle.dalvik_defs.specs.Fields.{first_layer, first_value}
use Rattle.dalvik_defs.specs.Names as name
use Rattle.dalvik_defs.specs.Names.{Text}
use Rattle.dalvik_defs.specs.Naming as naming
use Rattle.dalvik_defs.specs.Naming.{named_field, note_of, text_at, type_at, value_of}
use Rattle.dalvik_defs.specs.declared.encoded.NamedElement.{NamedElement}
use Rattle.dalvik_defs.specs.declared.encoded.NamedNote.{NamedNote}
use Rattle.dalvik_defs.specs.declared.encoded.NamedValue.{NamedValue, fold-roll-NamedValue}
use Rattle.dalvik_defs.specs.declared.encoded.NamedValue.TheOpen as named_layer
use Rattle.dalvik_defs.specs.declared.encoded.NamedValue.TheVariants as variant
use Rattle.dalvik_defs.specs.declared.state.Value.{Value}
use Rattle.dalvik_defs.specs.declared.state.Value.TheVariants.{Word, Low, Literal, Class}
use Rattle.run_laws.specs.Regular.{suits}
use Rattle.name_bridge.proofs.Tables.{field_is}
use Rattle.removal_bridge.proofs.Members.{letter_same}

-- a layer of a value by names
element_of : Program → Element → NamedElement
element_of p e = fold-Element NamedValue NamedElement NamedNote (naming.value_layer p) (naming.element_layer p) (naming.note_layer p) e

named_is : (p : Program) (x : EncValue-F EncValue Element Note) → value_of p (roll-EncValue x) ≡ naming.value_layer p (folds.map-EncValue EncValue Element Note NamedValue NamedElement NamedNote (value_of p) (element_of p) (note_of p) x)
named_is p x = fold-roll-EncValue NamedValue NamedElement NamedNote (naming.value_layer p) (naming.element_layer p) (naming.note_layer p) x

abbrev of_layer : Program → EncValue-F EncValue Element Note → NamedValue
of_layer p x = naming.value_layer p (folds.map-EncValue EncValue Element Note NamedValue NamedElement NamedNote (value_of p) (element_of p) (note_of p) x)

module _ (p : Program) (s : Sound p) where
  first_is : (x : EncValue-F EncValue Element Note) → first_value (value_of p (roll-EncValue x)) ≡ first_value (of_layer p x)
  first_is x = ap (λ (z : NamedValue). first_value z) (named_is p x)

  -- ---- letters

  word_same : (k : ℕ) → list_any (nat_eq (letter_of p k)) (codes "ZBSCIF") ≡ name.is_word (type_at p k)
  word_same k = letter_same p s (λ u. list_any (nat_eq u) (codes "ZBSCIF")) name.is_word refl (λ u us. refl) k

  wide_same : (k : ℕ) → texts.is_wide (letter_of p k) ≡ name.is_wide (type_at p k)
  wide_same k = letter_same p s texts.is_wide name.is_wide refl (λ u us. refl) k

  reference_same : (k : ℕ) → texts.is_reference (letter_of p k) ≡ name.is_reference (type_at p k)
  reference_same k = letter_same p s texts.is_reference name.is_reference refl (λ u us. refl) k

  a_word : (k n : ℕ) (b : Bool) → (nat_eq (letter_of p k) n && b) ≡ true → list_any (nat_eq n) (codes "ZBSCIF") ≡ true → name.is_word (type_at p k) ≡ true
  a_word k n b h i = sym (word_same k) ∙ (ap (λ u. list_any (nat_eq u) (codes "ZBSCIF")) (number_of (letter_of p k) n (and_left (nat_eq (letter_of p k) n) b h)) ∙ i)

  a_wide : (k n : ℕ) (b : Bool) → (nat_eq (letter_of p k) n && b) ≡ true → texts.is_wide n ≡ true → name.is_wide (type_at p k) ≡ true
  a_wide k n b h i = sym (wide_same k) ∙ (ap texts.is_wide (number_of (letter_of p k) n (and_left (nat_eq (letter_of p k) n) b h)) ∙ i)

  a_reference : (k : ℕ) (b : Bool) → (texts.is_reference (letter_of p k) && b) ≡ true → name.is_reference (type_at p k) ≡ true
  a_reference k b h = sym (reference_same k) ∙ and_left (texts.is_reference (letter_of p k)) b h

  -- ---- values

  rolled : (v : NamedValue) (t : Text) (x : Value) → first_value v ≡ x → suits t x ≡ true → suits t (first_value v) ≡ true
  rolled v t x e h = ap (suits t) e ∙ h

  layer_suits : (k : ℕ) (x : EncValue-F EncValue Element Note) → layer_fits p (letter_of p k) x ≡ true → suits (type_at p k) (first_value (of_layer p x)) ≡ true
  layer_suits k (layer.Byte z) h = rolled (variant.Byte z) (type_at p k) (Word (cast_unsigned w32 z))
      (ap (λ (v : NamedValue). first_value v) (sym (variant.rolls-Byte z)) ∙ fold-roll-NamedValue Value Value Value first_layer (λ e. Word 0) (λ n. Word 0) (named_layer.Byte z)) (a_word k 66 (not (int_eq z (pos 0))) h refl)
  layer_suits k (layer.Short z) h = rolled (variant.Short z) (type_at p k) (Word (cast_unsigned w32 z))
      (ap (λ (v : NamedValue). first_value v) (sym (variant.rolls-Short z)) ∙ fold-roll-NamedValue Value Value Value first_layer (λ e. Word 0) (λ n. Word 0) (named_layer.Short z)) (a_word k 83 (not (int_eq z (pos 0))) h refl)
  layer_suits k (layer.Char n) h = rolled (variant.Char n) (type_at p k) (Word n)
      (ap (λ (v : NamedValue). first_value v) (sym (variant.rolls-Char n)) ∙ fold-roll-NamedValue Value Value Value first_layer (λ e. Word 0) (λ n. Word 0) (named_layer.Char n)) (a_word k 67 (not (nat_eq n 0)) h refl)
  layer_suits k (layer.Int z) h = rolled (variant.Int z) (type_at p k) (Word (cast_unsigned w32 z))
      (ap (λ (v : NamedValue). first_value v) (sym (variant.rolls-Int z)) ∙ fold-roll-NamedValue Value Value Value first_layer (λ e. Word 0) (λ n. Word 0) (named_layer.Int z)) (a_word k 73 (not (int_eq z (pos 0))) h refl)
  layer_suits k (layer.Long z) h = rolled (variant.Long z) (type_at p k) (Low (cast_unsigned w64 z))
      (ap (λ (v : NamedValue). first_value v) (sym (variant.rolls-Long z)) ∙ fold-roll-NamedValue Value Value Value first_layer (λ e. Word 0) (λ n. Word 0) (named_layer.Long z)) (a_wide k 74 (not (int_eq z (pos 0))) h refl)
  layer_suits k (layer.Float n) h = rolled (variant.Float n) (type_at p k) (Word n)
      (ap (λ (v : NamedValue). first_value v) (sym (variant.rolls-Float n)) ∙ fold-roll-NamedValue Value Value Value first_layer (λ e. Word 0) (λ n. Word 0) (named_layer.Float n)) (a_word k 70 (not (nat_eq n 0)) h refl)
  layer_suits k (layer.Double n) h = rolled (variant.Double n) (type_at p k) (Low n)
      (ap (λ (v : NamedValue). first_value v) (sym (variant.rolls-Double n)) ∙ fold-roll-NamedValue Value Value Value first_layer (λ e. Word 0) (λ n. Word 0) (named_layer.Double n)) (a_wide k 68 (not (nat_eq n 0)) h refl)
  layer_suits k (layer.Str n) h = rolled (variant.Str (text_at p n)) (type_at p k) (Literal (text_at p n))
      (ap (λ (v : NamedValue). first_value v) (sym (variant.rolls-Str (text_at p n))) ∙ fold-roll-NamedValue Value Value Value first_layer (λ e. Word 0) (λ n. Word 0) (named_layer.Str (text_at p n))) (a_reference k (has_string p n) h)
  layer_suits k (layer.Class n) h = rolled (variant.Class (type_at p n)) (type_at p k) (Class (type_at p n))
      (ap (λ (v : NamedValue). first_value v) (sym (variant.rolls-Class (type_at p n))) ∙ fold-roll-NamedValue Value Value Value first_layer (λ e. Word 0) (λ n. Word 0) (named_layer.Class (type_at p n))) (a_reference k (has_type p n) h)
  layer_suits k (layer.Bool b) h = rolled (variant.Bool b) (type_at p k) (truth b)
      (ap (λ (v : NamedValue). first_value v) (sym (variant.rolls-Bool b)) ∙ fold-roll-NamedValue Value Value Value first_layer (λ e. Word 0) (λ n. Word 0) (named_layer.Bool b)) (of_truth b (a_word k 90 b h refl))
    where
      of_truth : (b : Bool) → name.is_word (type_at p k) ≡ true → suits (type_at p k) (truth b) ≡ true
      of_truth true i = i
      of_truth false i = i
  layer_suits k (layer.Field n) h = absurd (true≢false (sym h))
  layer_suits k (layer.Method n) h = absurd (true≢false (sym h))
  layer_suits k (layer.Enum n) h = absurd (true≢false (sym h))
  layer_suits k (layer.Array vs) h = absurd (true≢false (sym h))
  layer_suits k (layer.Annotation n) h = absurd (true≢false (sym h))
  layer_suits k layer.Null h = absurd (true≢false (sym h))

  abbrev Suits : EncValue → Type 0
  Suits v = (k : ℕ) → first_fits p (letter_of p k) v ≡ true → suits (type_at p k) (first_value (value_of p v)) ≡ true

  roll_suits : (x : EncValue-F EncValue Element Note) → Suits (roll-EncValue x)
  roll_suits x k h = ap (suits (type_at p k)) (first_is x) ∙ layer_suits k x (ap (layer_fits p (letter_of p k)) (sym (out-roll-EncValue x)) ∙ h)

  value_suits : (v : EncValue) → Suits v
  value_suits = ind-EncValue Suits (λ e. Unit {0}) (λ n. Unit {0}) (λ x y is. roll_suits x) (λ x y is. tt) (λ x y is. tt)

  first_fit : (class : ℕ) (f : Field) → field_fits p class f ≡ true → first_value_fits p f.flags f.name f.first ≡ true
  unfolding field_fits
  first_fit class f h = and_left (first_value_fits p f.flags f.name f.first) (marks_fit p f.marks)
      (and_right (is_class_number (class_of_field (slice_get p.fields f.name)) class) (first_value_fits p f.flags f.name f.first && marks_fit p f.marks) h)

  pub first_suits : (class : ℕ) (f : Field) (v : EncValue) → FieldFits p class f → field_fits p class f ≡ true → f.first ≡ Some v → suits (named_field p f).kind (first_value (value_of p v)) ≡ true
  first_suits class f v there fits is = subst (λ t. suits t (first_value (value_of p v)) ≡ true) (sym (ap (λ k. k.kind) (field_is p s f.name there.entry there.is))) (value_suits v there.entry.kind letter)
    where
      letter : first_fits p (letter_of p there.entry.kind) v ≡ true
      letter = sym (ap (λ o. first_fits p (field_letter p o) v) there.is) ∙ and_right (is_static f.flags) (first_fits p (field_letter p (slice_get p.fields f.name)) v) (sym (ap (first_value_fits p f.flags f.name) is) ∙ first_fit class f fits)
