-- A first value is a text or a type by number where it is one by name.
use Rattle.std.proofs.Common.{◌≡◌, Bool, true, false, map, Option, Some, None, refl, sym, ap, ◌∙◌}
use Rattle.std.specs.Option.{option_map}
use Rattle.program_model.specs.declared.program.Program.{Program}
use Rattle.program_model.specs.declared.value.EncValue.{EncValue, EncValue-F, fold-roll-EncValue, out-EncValue, roll-EncValue}
use Rattle.program_model.specs.declared.value.EncValue.TheOpen as layer
use Rattle.program_model.specs.declared.value.EncValue.TheFolds as folds
use Rattle.program_model.specs.declared.value.EncValue.TheFolds.{ind-EncValue}
use Rattle.program_model.specs.declared.value.Element.{Element, fold-Element}
use Rattle.program_model.specs.declared.value.Note.{Note}
use Rattle.dalvik_defs.specs.ActPlain.{truth}
use Rattle.dalvik_defs.specs.Fields.{first_layer, first_value}
use Rattle.dalvik_defs.specs.Naming as naming
use Rattle.dalvik_defs.specs.Naming.{field_at, method_at, note_of, text_at, type_at, value_of}
use Rattle.dalvik_defs.specs.declared.encoded.NamedElement.{NamedElement}
use Rattle.dalvik_defs.specs.declared.encoded.NamedNote.{NamedNote}
use Rattle.dalvik_defs.specs.declared.encoded.NamedValue.{NamedValue, NamedValue-F, fold-roll-NamedValue, roll-NamedValue}
use Rattle.dalvik_defs.specs.declared.encoded.NamedValue.TheOpen as named_layer
use Rattle.dalvik_defs.specs.declared.encoded.NamedValue.TheVariants as variant
use Rattle.dalvik_defs.specs.declared.state.Value.{Value}
use Rattle.dalvik_defs.specs.declared.state.Value.TheVariants.{Word}
use Rattle.pass_defs.specs.Typed as typed
use Rattle.verify.specs.Wrong as wrong

module _ (p : Program) where
  abbrev tested : NamedValue → Bool
  tested v = typed.is_text_or_type (first_value v)

  element_of : Element → NamedElement
  element_of e = fold-Element NamedValue NamedElement NamedNote (naming.value_layer p) (naming.element_layer p) (naming.note_layer p) e

  abbrev mapped : EncValue-F EncValue Element Note → EncValue-F NamedValue NamedElement NamedNote
  mapped x = folds.map-EncValue EncValue Element Note NamedValue NamedElement NamedNote (value_of p) element_of (note_of p) x

  -- what stands for a layer by name
  stands : (x : EncValue-F EncValue Element Note) (y : NamedValue-F NamedValue NamedElement NamedNote) → roll-NamedValue y ≡ naming.value_layer p (mapped x) → tested (value_of p (roll-EncValue x)) ≡ tested (roll-NamedValue y)
  stands x y e = ap tested (fold-roll-EncValue NamedValue NamedElement NamedNote (naming.value_layer p) (naming.element_layer p) (naming.note_layer p) x) ∙ ap tested (sym e)

  layer_same : (x : EncValue-F EncValue Element Note) → tested (value_of p (roll-EncValue x)) ≡ wrong.is_layer_text_or_type x
  layer_same (layer.Byte x) = stands (layer.Byte x) (named_layer.Byte x) (variant.rolls-Byte x) ∙ ap typed.is_text_or_type (fold-roll-NamedValue Value Value Value first_layer (λ e. Word 0) (λ n. Word 0) (named_layer.Byte x))
  layer_same (layer.Short x) = stands (layer.Short x) (named_layer.Short x) (variant.rolls-Short x) ∙ ap typed.is_text_or_type (fold-roll-NamedValue Value Value Value first_layer (λ e. Word 0) (λ n. Word 0) (named_layer.Short x))
  layer_same (layer.Char x) = stands (layer.Char x) (named_layer.Char x) (variant.rolls-Char x) ∙ ap typed.is_text_or_type (fold-roll-NamedValue Value Value Value first_layer (λ e. Word 0) (λ n. Word 0) (named_layer.Char x))
  layer_same (layer.Int x) = stands (layer.Int x) (named_layer.Int x) (variant.rolls-Int x) ∙ ap typed.is_text_or_type (fold-roll-NamedValue Value Value Value first_layer (λ e. Word 0) (λ n. Word 0) (named_layer.Int x))
  layer_same (layer.Long x) = stands (layer.Long x) (named_layer.Long x) (variant.rolls-Long x) ∙ ap typed.is_text_or_type (fold-roll-NamedValue Value Value Value first_layer (λ e. Word 0) (λ n. Word 0) (named_layer.Long x))
  layer_same (layer.Float x) = stands (layer.Float x) (named_layer.Float x) (variant.rolls-Float x) ∙ ap typed.is_text_or_type (fold-roll-NamedValue Value Value Value first_layer (λ e. Word 0) (λ n. Word 0) (named_layer.Float x))
  layer_same (layer.Double x) = stands (layer.Double x) (named_layer.Double x) (variant.rolls-Double x) ∙ ap typed.is_text_or_type (fold-roll-NamedValue Value Value Value first_layer (λ e. Word 0) (λ n. Word 0) (named_layer.Double x))
  layer_same (layer.Str n) = stands (layer.Str n) (named_layer.Str (text_at p n)) (variant.rolls-Str (text_at p n)) ∙ ap typed.is_text_or_type (fold-roll-NamedValue Value Value Value first_layer (λ e. Word 0) (λ n. Word 0) (named_layer.Str (text_at p n)))
  layer_same (layer.Class n) = stands (layer.Class n) (named_layer.Class (type_at p n)) (variant.rolls-Class (type_at p n)) ∙ ap typed.is_text_or_type (fold-roll-NamedValue Value Value Value first_layer (λ e. Word 0) (λ n. Word 0) (named_layer.Class (type_at p n)))
  layer_same (layer.Field n) = stands (layer.Field n) (named_layer.Field (field_at p n)) (variant.rolls-Field (field_at p n)) ∙ ap typed.is_text_or_type (fold-roll-NamedValue Value Value Value first_layer (λ e. Word 0) (λ n. Word 0) (named_layer.Field (field_at p n)))
  layer_same (layer.Method n) = stands (layer.Method n) (named_layer.Method (method_at p n)) (variant.rolls-Method (method_at p n)) ∙ ap typed.is_text_or_type (fold-roll-NamedValue Value Value Value first_layer (λ e. Word 0) (λ n. Word 0) (named_layer.Method (method_at p n)))
  layer_same (layer.Enum n) = stands (layer.Enum n) (named_layer.Enum (field_at p n)) (variant.rolls-Enum (field_at p n)) ∙ ap typed.is_text_or_type (fold-roll-NamedValue Value Value Value first_layer (λ e. Word 0) (λ n. Word 0) (named_layer.Enum (field_at p n)))
  layer_same (layer.Array vs) = stands (layer.Array vs) (named_layer.Array (map (value_of p) vs)) (variant.rolls-Array (map (value_of p) vs)) ∙ ap typed.is_text_or_type (fold-roll-NamedValue Value Value Value first_layer (λ e. Word 0) (λ n. Word 0) (named_layer.Array (map (value_of p) vs)))
  layer_same (layer.Annotation n) = stands (layer.Annotation n) (named_layer.Annotation (note_of p n)) (variant.rolls-Annotation (note_of p n)) ∙ ap typed.is_text_or_type (fold-roll-NamedValue Value Value Value first_layer (λ e. Word 0) (λ n. Word 0) (named_layer.Annotation (note_of p n)))
  layer_same layer.Null = stands layer.Null named_layer.Null variant.rolls-Null ∙ ap typed.is_text_or_type (fold-roll-NamedValue Value Value Value first_layer (λ e. Word 0) (λ n. Word 0) named_layer.Null)
  layer_same (layer.Bool b) = stands (layer.Bool b) (named_layer.Bool b) (variant.rolls-Bool b) ∙ ap typed.is_text_or_type (fold-roll-NamedValue Value Value Value first_layer (λ e. Word 0) (λ n. Word 0) (named_layer.Bool b)) ∙ by b
    where
      by : (b : Bool) → typed.is_text_or_type (truth b) ≡ false
      by true = refl
      by false = refl

  -- a value has a layer
  abbrev Layered : EncValue → Type 0
  Layered v = (x : EncValue-F EncValue Element Note) × (v ≡ roll-EncValue x)

  layered : (v : EncValue) → Layered v
  layered = ind-EncValue Layered (λ e. Unit {0}) (λ n. Unit {0}) (λ x y is. (x, refl)) (λ x y is. tt) (λ x y is. tt)

  rolled_same : (x : EncValue-F EncValue Element Note) → tested (value_of p (roll-EncValue x)) ≡ wrong.is_text_or_type (roll-EncValue x)
  unfolding out-EncValue denote.Hole.Carrier.out roll-EncValue denote.Hole.Carrier.roll
  rolled_same layer.Null = layer_same layer.Null
  rolled_same x = layer_same x

  value_same : (v : EncValue) → tested (value_of p v) ≡ wrong.is_text_or_type v
  value_same v = let r = layered v in ap (λ (v : EncValue). tested (value_of p v)) r.1 ∙ rolled_same r.0 ∙ ap wrong.is_text_or_type (sym r.1)

  pub first_same : (o : Option EncValue) → elim (option_map (value_of p) o) as (λ o. Bool) [ Some v ↦ typed.is_text_or_type (first_value v) | None ↦ false ] ≡ wrong.is_first_text_or_type o
  first_same None = refl
  first_same (Some v) = value_same v
