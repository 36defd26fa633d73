-- A word that a field of a well-formed program begins with has 32 bits, where its first values have.
use Rattle.std.proofs.Common.{◌≡◌, ℕ, Bool, true, false, true≢false, Option, Some, None, refl, sym, ap, ◌∙◌, subst, arith}
use Rattle.std.specs.Prelude.{◌&&◌, slice_get, Contains}
use Rattle.std.specs.Option.{option_map}
use Rattle.std.specs.Int.{w32, w64, cast_unsigned}
use Rattle.program_model.specs.MemberRules.{class_of_field, field_fits, field_letter, first_value_fits, is_class_number, is_static}
use Rattle.program_model.specs.ValueRules.{first_fits, layer_fits, marks_fit}
use Rattle.program_model.specs.declared.program.Field.{Field}
use Rattle.program_model.specs.declared.program.Class.{Class}
use Rattle.program_model.specs.declared.program.Program.{Program}
use Rattle.program_model.specs.declared.value.Element.{Element, fold-Element}
use Rattle.program_model.specs.declared.value.EncValue.{EncValue, EncValue-F, fold-roll-EncValue, roll-EncValue}
use Rattle.program_model.specs.declared.value.EncValue.TheOpen as layer
use Rattle.program_model.specs.declared.value.EncValue.TheViews.{out-roll-EncValue}
use Rattle.program_model.specs.declared.value.EncValue.TheFolds as folds
use Rattle.program_model.specs.declared.value.EncValue.TheFolds.{ind-EncValue}
use Rattle.program_model.specs.declared.value.Note.{Note}
use Rattle.class_defs.proofs.WellFormed.{and_left, and_right, Sound}
use Rattle.dalvik_defs.specs.ActPlain.{truth}
use Rattle.dalvik_defs.specs.Face.{place_of}
use Rattle.dalvik_defs.specs.Fields.{first_layer, first_of, first_value}
use Rattle.dalvik_defs.specs.Find.{defined_field, field_in}
use Rattle.dalvik_defs.specs.Names.{Text, is_wide, text_eq}
use Rattle.dalvik_defs.specs.Naming as naming
use Rattle.dalvik_defs.specs.Naming.{named, named_class, named_field, note_of, text_at, type_at, value_of}
use Rattle.dalvik_defs.specs.State.{zero_of}
use Rattle.dalvik_defs.specs.Under.{class_named}
use Rattle.dalvik_defs.specs.declared.encoded.NamedElement.{NamedElement}
use Rattle.dalvik_defs.specs.declared.encoded.NamedNote.{NamedNote}
use Rattle.dalvik_defs.specs.declared.encoded.NamedValue.{NamedValue, fold-roll-NamedValue}
use Rattle.dalvik_defs.specs.declared.encoded.NamedValue.TheOpen as named_layer
use Rattle.dalvik_defs.specs.declared.encoded.NamedValue.TheVariants as variant
use Rattle.dalvik_defs.specs.declared.names.FieldKey.{FieldKey}
use Rattle.dalvik_defs.specs.declared.program.NamedClass.{NamedClass}
use Rattle.dalvik_defs.specs.declared.program.NamedField.{NamedField}
use Rattle.dalvik_defs.specs.declared.state.Value.{Value}
use Rattle.dalvik_defs.specs.declared.state.Value.TheVariants.{Word, Low, Literal, Class as ClassOf}
use Rattle.pass_defs.specs.Analysis.{IsRanged}
use Rattle.removal_law.proofs.Lists.{contained, found_in}
use Rattle.removal_law.proofs.Trees.{class_in}
use Rattle.removal_bridge.proofs.Listed.{image, none_same, field_fits_at}
use Rattle.premises.specs.Numbers.{AllHaveWords, LayerHasWords, ValueHasWords}
use Rattle.facts_kept.proofs.Small.{bits}

-- ---- one value

element_of : Program → Element → NamedElement
element_of p e = fold-Element NamedValue NamedElement NamedNote (naming.value_layer p) (naming.element_layer p) (naming.note_layer p) e

named_is : (p : Program) (x : EncValue-F EncValue Element Note) → value_of p (roll-EncValue x) ≡ naming.value_layer p (folds.map-EncValue EncValue Element Note NamedValue NamedElement NamedNote (value_of p) (element_of p) (note_of p) x)
named_is p x = fold-roll-EncValue NamedValue NamedElement NamedNote (naming.value_layer p) (naming.element_layer p) (naming.note_layer p) x

abbrev of_layer : Program → EncValue-F EncValue Element Note → NamedValue
of_layer p x = naming.value_layer p (folds.map-EncValue EncValue Element Note NamedValue NamedElement NamedNote (value_of p) (element_of p) (note_of p) x)

first_is : (v : NamedValue) (x : Value) → first_value v ≡ x → IsRanged x → IsRanged (first_value v)
first_is v x e h = subst IsRanged (sym e) h

truth_ranged : (b : Bool) → IsRanged (truth b)
truth_ranged true = omega arith
truth_ranged false = omega arith

layer_ranged : (p : Program) (letter : ℕ) (x : EncValue-F EncValue Element Note) → layer_fits p letter x ≡ true → LayerHasWords x → IsRanged (first_value (of_layer p x))
layer_ranged p letter (layer.Byte z) h w = first_is (variant.Byte z) (Word (cast_unsigned w32 z))
    (ap (λ (v : NamedValue). first_value v) (sym (variant.rolls-Byte z)) ∙ fold-roll-NamedValue Value Value Value first_layer (λ e. Word 0) (λ n. Word 0) (named_layer.Byte z)) (bits z w)
layer_ranged p letter (layer.Short z) h w = first_is (variant.Short z) (Word (cast_unsigned w32 z))
    (ap (λ (v : NamedValue). first_value v) (sym (variant.rolls-Short z)) ∙ fold-roll-NamedValue Value Value Value first_layer (λ e. Word 0) (λ n. Word 0) (named_layer.Short z)) (bits z w)
layer_ranged p letter (layer.Char n) h w = first_is (variant.Char n) (Word n)
    (ap (λ (v : NamedValue). first_value v) (sym (variant.rolls-Char n)) ∙ fold-roll-NamedValue Value Value Value first_layer (λ e. Word 0) (λ n. Word 0) (named_layer.Char n)) w
layer_ranged p letter (layer.Int z) h w = first_is (variant.Int z) (Word (cast_unsigned w32 z))
    (ap (λ (v : NamedValue). first_value v) (sym (variant.rolls-Int z)) ∙ fold-roll-NamedValue Value Value Value first_layer (λ e. Word 0) (λ n. Word 0) (named_layer.Int z)) (bits z w)
layer_ranged p letter (layer.Long z) h w = first_is (variant.Long z) (Low (cast_unsigned w64 z))
    (ap (λ (v : NamedValue). first_value v) (sym (variant.rolls-Long z)) ∙ fold-roll-NamedValue Value Value Value first_layer (λ e. Word 0) (λ n. Word 0) (named_layer.Long z)) tt
layer_ranged p letter (layer.Float n) h w = first_is (variant.Float n) (Word n)
    (ap (λ (v : NamedValue). first_value v) (sym (variant.rolls-Float n)) ∙ fold-roll-NamedValue Value Value Value first_layer (λ e. Word 0) (λ n. Word 0) (named_layer.Float n)) w
layer_ranged p letter (layer.Double n) h w = first_is (variant.Double n) (Low n)
    (ap (λ (v : NamedValue). first_value v) (sym (variant.rolls-Double n)) ∙ fold-roll-NamedValue Value Value Value first_layer (λ e. Word 0) (λ n. Word 0) (named_layer.Double n)) tt
layer_ranged p letter (layer.Str n) h w = first_is (variant.Str (text_at p n)) (Literal (text_at p n))
    (ap (λ (v : NamedValue). first_value v) (sym (variant.rolls-Str (text_at p n))) ∙ fold-roll-NamedValue Value Value Value first_layer (λ e. Word 0) (λ n. Word 0) (named_layer.Str (text_at p n))) tt
layer_ranged p letter (layer.Class n) h w = first_is (variant.Class (type_at p n)) (ClassOf (type_at p n))
    (ap (λ (v : NamedValue). first_value v) (sym (variant.rolls-Class (type_at p n))) ∙ fold-roll-NamedValue Value Value Value first_layer (λ e. Word 0) (λ n. Word 0) (named_layer.Class (type_at p n))) tt
layer_ranged p letter (layer.Bool b) h w = first_is (variant.Bool b) (truth b)
    (ap (λ (v : NamedValue). first_value v) (sym (variant.rolls-Bool b)) ∙ fold-roll-NamedValue Value Value Value first_layer (λ e. Word 0) (λ n. Word 0) (named_layer.Bool b)) (truth_ranged b)
layer_ranged p letter (layer.Field n) h w = absurd (true≢false (sym h))
layer_ranged p letter (layer.Method n) h w = absurd (true≢false (sym h))
layer_ranged p letter (layer.Enum n) h w = absurd (true≢false (sym h))
layer_ranged p letter (layer.Array vs) h w = absurd (true≢false (sym h))
layer_ranged p letter (layer.Annotation n) h w = absurd (true≢false (sym h))
layer_ranged p letter layer.Null h w = absurd (true≢false (sym h))

abbrev Ranged : Program → EncValue → Type 0
Ranged p v = (letter : ℕ) → first_fits p letter v ≡ true → ValueHasWords v → IsRanged (first_value (value_of p v))

roll_ranged : (p : Program) (x : EncValue-F EncValue Element Note) → Ranged p (roll-EncValue x)
roll_ranged p x letter h w = subst IsRanged (sym (ap (λ (v : NamedValue). first_value v) (named_is p x)))
    (layer_ranged p letter x (ap (layer_fits p letter) (sym (out-roll-EncValue x)) ∙ h) (subst LayerHasWords (out-roll-EncValue x) w))

value_ranged : (p : Program) (v : EncValue) → Ranged p v
value_ranged p = ind-EncValue (Ranged p) (λ e. Unit {0}) (λ n. Unit {0}) (λ x y is. roll_ranged p x) (λ x y is. tt) (λ x y is. tt)

zero_ranged : (t : Text) → IsRanged (zero_of t)
zero_ranged t = by (is_wide t)
  where
    by : (b : Bool) → IsRanged (elim b as (λ b. Value) [ true ↦ Low 0 | false ↦ Word 0 ])
    by true = tt
    by false = omega arith

-- ---- a field

module _ (p : Program) (s : Sound p) (words : AllHaveWords p) where
  first_fit : (class : ℕ) (f : Field) → field_fits p class f ≡ true → first_value_fits p f.flags f.name f.first ≡ true
  unfolding field_fits
  first_fit class f h = and_left (first_value_fits p f.flags f.name f.first) (marks_fit p f.marks)
      (and_right (is_class_number (class_of_field (slice_get p.fields f.name)) class) (first_value_fits p f.flags f.name f.first && marks_fit p f.marks) h)

  begun : (i j : ℕ) (c : Class) (f : Field) → slice_get p.classes i ≡ Some c → slice_get c.fields j ≡ Some f → (k : FieldKey)
      → IsRanged (elim (option_map (value_of p) f.first) as (λ o. Value) [ Some v ↦ first_value v | None ↦ zero_of k.kind ])
  begun i j c f e h k = by f.first refl
    where
      by : (o : Option EncValue) → f.first ≡ o → IsRanged (elim (option_map (value_of p) o) as (λ o. Value) [ Some v ↦ first_value v | None ↦ zero_of k.kind ])
      by None g = zero_ranged k.kind
      by (Some v) g = value_ranged p v (field_letter p (slice_get p.fields f.name))
          (and_right (is_static f.flags) (first_fits p (field_letter p (slice_get p.fields f.name)) v) (sym (ap (first_value_fits p f.flags f.name) g) ∙ first_fit c.name f (field_fits_at p s i c e j f h)))
          (words.firsts i j c f v e h g)

  pub firsts_ranged : (k : FieldKey) (d : NamedField) → defined_field (named p) k ≡ Some d → IsRanged (first_of k (place_of k.class d))
  firsts_ranged k d e = by (class_named (named p) k.class) refl e
    where
      by : (o : Option NamedClass) → class_named (named p) k.class ≡ o → (elim o as (λ o. Option NamedField) [ Some c ↦ field_in c k.name k.kind | None ↦ None ]) ≡ Some d → IsRanged (first_of k (place_of k.class d))
      by None i h = none_same d h
      by (Some c) i h =
          let x = image (named_class p) p.classes c (contained c (named p).classes (class_in (named p) k.class c i)) in
          let there = contained d c.fields (found_in (λ f. text_eq f.name k.name && text_eq f.kind k.kind) c.fields d h).is_in in
          let f = image (named_field p) x.entry.fields d (subst (λ c. Contains c.fields d) (sym x.is) there) in
          subst (λ d. IsRanged (first_of k (place_of k.class d))) f.is (begun x.place f.place x.entry f.entry x.is_entry f.is_entry k)
