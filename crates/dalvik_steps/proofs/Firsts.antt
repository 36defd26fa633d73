-- First values of static fields, by numbers and by names.
use Rattle.std.proofs.Common.{◌≡◌, ℕ, ℤ, zero, suc, ◌<◌, Bool, true, false, true≢false, List, [], ◌∷◌, length, map, ap, refl, sym, subst, ◌∙◌}
use Rattle.std.specs.Prelude.{◌&&◌, cond, Option, Some, None, slice_get}
use Rattle.std.specs.Int.{w32, w64, cast_unsigned}
use Rattle.std.specs.List.{list_all}
use Rattle.class_defs.proofs.Positions.{entry_at}
use Rattle.class_defs.proofs.WellFormed.{all_at, and_left, and_right, below, sound, Sound}
use Rattle.program_model.specs.Distinct.{all_differ, own_field_key}
use Rattle.program_model.specs.MemberRules.{class_fits, class_of_field, field_fits, field_letter, fields_fit, fields_in_order, first_value_fits, is_class_number, is_static, methods_fit, source_fits, types_of_class_fit}
use Rattle.program_model.specs.Neighbours.{neighbours}
use Rattle.program_model.specs.ProgramRules.{is_well_formed}
use Rattle.program_model.specs.Texts.{has_string, has_type, is_reference}
use Rattle.program_model.specs.ValueRules.{first_fits, layer_fits, marks_fit}
use Rattle.program_model.specs.declared.program.Class.{Class}
use Rattle.program_model.specs.declared.program.Field.{Field}
use Rattle.program_model.specs.declared.program.Program.{Program}
use Rattle.program_model.specs.declared.value.EncValue.{EncValue, EncValue-F, fold-roll-EncValue, out-EncValue, roll-EncValue}
use Rattle.program_model.specs.declared.value.EncValue.TheOpen as layer
use Rattle.program_model.specs.declared.value.EncValue.TheVariants as own
use Rattle.program_model.specs.declared.value.EncValue.TheFolds as folds
use Rattle.program_model.specs.declared.value.EncValue.TheFolds.{ind-EncValue}
use Rattle.program_model.specs.declared.value.Element.{Element, fold-Element}
use Rattle.program_model.specs.declared.value.Note.{Note}
use Rattle.name_bridge.proofs.Tables.{type_string}
use Rattle.dalvik_defs.specs.ActPlain.{truth}
use Rattle.dalvik_defs.specs.Fields.{first_layer, first_value}
use Rattle.dalvik_defs.specs.Names.{Text}
use Rattle.dalvik_defs.specs.Naming.{field_at, method_at, note_of, text_at, type_at, value_of}
use Rattle.dalvik_defs.specs.Naming as naming
use Rattle.dalvik_defs.specs.declared.encoded.NamedElement.{NamedElement}
use Rattle.dalvik_defs.specs.declared.encoded.NamedNote.{NamedNote}
use Rattle.dalvik_defs.specs.declared.encoded.NamedValue.{NamedValue, fold-roll-NamedValue}
use Rattle.dalvik_defs.specs.declared.encoded.NamedValue.TheOpen as named_layer
use Rattle.dalvik_defs.specs.declared.encoded.NamedValue.TheVariants as variant
use Rattle.dalvik_defs.specs.declared.state.Value.{Value}
use Rattle.dalvik_defs.specs.declared.state.Value.TheVariants.{Word, Low, Literal}
use Rattle.dalvik_defs.specs.declared.state.Value.TheVariants as named
use Rattle.dalvik_lookups.specs.Tables.{string_in, IsRight}
use Rattle.dalvik_lookups.specs.declared.lookups.Lookups.{Lookups}
use Rattle.dalvik_state.specs.Views as state
use Rattle.dalvik_state.specs.Views.{class_in, names_in, IsFine}
use Rattle.dalvik_state.specs.declared.datum.Datum.{Datum}
use Rattle.dalvik_state.specs.declared.datum.Datum.TheVariants as datum
use Rattle.dalvik_steps.specs.Reaching.{FirstThere, IsFirst, NamesThere}

-- ---- by names

abbrev pub first_at : Program → EncValue-F EncValue Element Note → Value
first_at p (layer.Byte z) = Word (cast_unsigned w32 z)
first_at p (layer.Short z) = Word (cast_unsigned w32 z)
first_at p (layer.Char n) = Word n
first_at p (layer.Int z) = Word (cast_unsigned w32 z)
first_at p (layer.Long z) = Low (cast_unsigned w64 z)
first_at p (layer.Float n) = Word n
first_at p (layer.Double n) = Low n
first_at p (layer.Str n) = Literal (text_at p n)
first_at p (layer.Class n) = named.Class (type_at p n)
first_at p (layer.Bool b) = truth b
first_at p v = Word 0

element_of : Program → Element → NamedElement
element_of p e = fold-Element NamedValue NamedElement NamedNote (naming.value_layer p) (naming.element_layer p) (naming.note_layer p) e

named_is : (p : Program) (x : EncValue-F EncValue Element Note) → value_of p (roll-EncValue x) ≡ naming.value_layer p (folds.map-EncValue EncValue Element Note NamedValue NamedElement NamedNote (value_of p) (element_of p) (note_of p) x)
named_is p x = fold-roll-EncValue NamedValue NamedElement NamedNote (naming.value_layer p) (naming.element_layer p) (naming.note_layer p) x

pub first_is : (p : Program) (x : EncValue-F EncValue Element Note) → first_value (value_of p (roll-EncValue x)) ≡ first_at p x
first_is p (layer.Byte x) = ap (λ (z : NamedValue). first_value z) (named_is p (layer.Byte x)) ∙ ap (λ (z : NamedValue). first_value z) (sym (variant.rolls-Byte x)) ∙ fold-roll-NamedValue Value Value Value first_layer (λ e. Word 0) (λ n. Word 0) (named_layer.Byte x)
first_is p (layer.Short x) = ap (λ (z : NamedValue). first_value z) (named_is p (layer.Short x)) ∙ ap (λ (z : NamedValue). first_value z) (sym (variant.rolls-Short x)) ∙ fold-roll-NamedValue Value Value Value first_layer (λ e. Word 0) (λ n. Word 0) (named_layer.Short x)
first_is p (layer.Char x) = ap (λ (z : NamedValue). first_value z) (named_is p (layer.Char x)) ∙ ap (λ (z : NamedValue). first_value z) (sym (variant.rolls-Char x)) ∙ fold-roll-NamedValue Value Value Value first_layer (λ e. Word 0) (λ n. Word 0) (named_layer.Char x)
first_is p (layer.Int x) = ap (λ (z : NamedValue). first_value z) (named_is p (layer.Int x)) ∙ ap (λ (z : NamedValue). first_value z) (sym (variant.rolls-Int x)) ∙ fold-roll-NamedValue Value Value Value first_layer (λ e. Word 0) (λ n. Word 0) (named_layer.Int x)
first_is p (layer.Long x) = ap (λ (z : NamedValue). first_value z) (named_is p (layer.Long x)) ∙ ap (λ (z : NamedValue). first_value z) (sym (variant.rolls-Long x)) ∙ fold-roll-NamedValue Value Value Value first_layer (λ e. Word 0) (λ n. Word 0) (named_layer.Long x)
first_is p (layer.Float x) = ap (λ (z : NamedValue). first_value z) (named_is p (layer.Float x)) ∙ ap (λ (z : NamedValue). first_value z) (sym (variant.rolls-Float x)) ∙ fold-roll-NamedValue Value Value Value first_layer (λ e. Word 0) (λ n. Word 0) (named_layer.Float x)
first_is p (layer.Double x) = ap (λ (z : NamedValue). first_value z) (named_is p (layer.Double x)) ∙ ap (λ (z : NamedValue). first_value z) (sym (variant.rolls-Double x)) ∙ fold-roll-NamedValue Value Value Value first_layer (λ e. Word 0) (λ n. Word 0) (named_layer.Double x)
first_is p (layer.Str n) = ap (λ (z : NamedValue). first_value z) (named_is p (layer.Str n)) ∙ ap (λ (z : NamedValue). first_value z) (sym (variant.rolls-Str (text_at p n))) ∙ fold-roll-NamedValue Value Value Value first_layer (λ e. Word 0) (λ n. Word 0) (named_layer.Str (text_at p n))
first_is p (layer.Class n) = ap (λ (z : NamedValue). first_value z) (named_is p (layer.Class n)) ∙ ap (λ (z : NamedValue). first_value z) (sym (variant.rolls-Class (type_at p n))) ∙ fold-roll-NamedValue Value Value Value first_layer (λ e. Word 0) (λ n. Word 0) (named_layer.Class (type_at p n))
first_is p (layer.Field n) = ap (λ (z : NamedValue). first_value z) (named_is p (layer.Field n)) ∙ ap (λ (z : NamedValue). first_value z) (sym (variant.rolls-Field (field_at p n))) ∙ fold-roll-NamedValue Value Value Value first_layer (λ e. Word 0) (λ n. Word 0) (named_layer.Field (field_at p n))
first_is p (layer.Method n) = ap (λ (z : NamedValue). first_value z) (named_is p (layer.Method n)) ∙ ap (λ (z : NamedValue). first_value z) (sym (variant.rolls-Method (method_at p n))) ∙ fold-roll-NamedValue Value Value Value first_layer (λ e. Word 0) (λ n. Word 0) (named_layer.Method (method_at p n))
first_is p (layer.Enum n) = ap (λ (z : NamedValue). first_value z) (named_is p (layer.Enum n)) ∙ ap (λ (z : NamedValue). first_value z) (sym (variant.rolls-Enum (field_at p n))) ∙ fold-roll-NamedValue Value Value Value first_layer (λ e. Word 0) (λ n. Word 0) (named_layer.Enum (field_at p n))
first_is p (layer.Array vs) = ap (λ (z : NamedValue). first_value z) (named_is p (layer.Array vs)) ∙ ap (λ (z : NamedValue). first_value z) (sym (variant.rolls-Array (map (value_of p) vs))) ∙ fold-roll-NamedValue Value Value Value first_layer (λ e. Word 0) (λ n. Word 0) (named_layer.Array (map (value_of p) vs))
first_is p (layer.Annotation n) = ap (λ (z : NamedValue). first_value z) (named_is p (layer.Annotation n)) ∙ ap (λ (z : NamedValue). first_value z) (sym (variant.rolls-Annotation (note_of p n))) ∙ fold-roll-NamedValue Value Value Value first_layer (λ e. Word 0) (λ n. Word 0) (named_layer.Annotation (note_of p n))
first_is p layer.Null = ap (λ (z : NamedValue). first_value z) (named_is p layer.Null) ∙ ap (λ (z : NamedValue). first_value z) (sym variant.rolls-Null) ∙ fold-roll-NamedValue Value Value Value first_layer (λ e. Word 0) (λ n. Word 0) named_layer.Null
first_is p (layer.Bool b) = ap (λ (z : NamedValue). first_value z) (named_is p (layer.Bool b)) ∙ ap (λ (z : NamedValue). first_value z) (sym (variant.rolls-Bool b)) ∙ fold-roll-NamedValue Value Value Value first_layer (λ e. Word 0) (λ n. Word 0) (named_layer.Bool b)

-- ---- classes as values

module _ (l : Lookups) (r : IsRight l) (kind : ℕ) (low : kind < length l.program.now.types) where
  abbrev p : Program
  p = l.program.now

  abbrev string : ℕ
  string = (entry_at p.types kind low).0

  string_is : slice_get p.types kind ≡ Some string
  string_is = (entry_at p.types kind low).1

  inside : string < length p.strings
  inside = type_string p (sound p r.well) kind string string_is

  class_is : class_in l kind ≡ datum.Class (string_in l.strings.items string)
  class_is = ap (λ o. elim o as (λ o. Datum) [ Some t ↦ datum.Class (string_in l.strings.items t) | None ↦ datum.Word 0 ]) string_is

  pub class_named : state.value_of (names_in l) (class_in l kind) ≡ named.Class (type_at p kind)
  class_named =
      ap (state.value_of (names_in l)) class_is
      ∙ ap (λ (t : Text). named.Class t) ((r.tabled.named.strings string inside).text ∙ sym (ap (λ o. elim o as (λ o. Text) [ Some t ↦ text_at p t | None ↦ [] ]) string_is))

  pub class_fine : (size : ℕ) → IsFine (names_in l) size (class_in l kind)
  class_fine size = subst (IsFine (names_in l) size) (sym class_is) (r.tabled.named.strings string inside).below

-- ---- what a well-formed program declares

there_of : (p : Program) (letter : ℕ) (x : EncValue-F EncValue Element Note) → layer_fits p letter x ≡ true → NamesThere p x
there_of p letter (layer.Byte z) h = tt
there_of p letter (layer.Short z) h = tt
there_of p letter (layer.Char n) h = tt
there_of p letter (layer.Int z) h = tt
there_of p letter (layer.Long z) h = tt
there_of p letter (layer.Float n) h = tt
there_of p letter (layer.Double n) h = tt
there_of p letter (layer.Str n) h = below n (length p.strings) (and_right (is_reference letter) (has_string p n) h)
there_of p letter (layer.Class n) h = below n (length p.types) (and_right (is_reference letter) (has_type p n) h)
there_of p letter (layer.Field n) h = tt
there_of p letter (layer.Method n) h = tt
there_of p letter (layer.Enum n) h = tt
there_of p letter (layer.Array vs) h = tt
there_of p letter (layer.Annotation n) h = tt
there_of p letter layer.Null h = tt
there_of p letter (layer.Bool b) h = tt

fits_of : (p : Program) (f : Field) (o : Option EncValue) → first_value_fits p f.flags f.name o ≡ true → FirstThere p o
fits_of p f None h = tt
fits_of p f (Some v) h = record { there = there_of p (field_letter p (slice_get p.fields f.name)) (out-EncValue v) (and_right (is_static f.flags) (first_fits p (field_letter p (slice_get p.fields f.name)) v) h) }

field_first : (p : Program) (class : ℕ) (f : Field) → field_fits p class f ≡ true → FirstThere p f.first
unfolding field_fits
field_first p class f h =
    fits_of p f f.first (and_left (first_value_fits p f.flags f.name f.first) (marks_fit p f.marks)
    (and_right (is_class_number (class_of_field (slice_get p.fields f.name)) class) (first_value_fits p f.flags f.name f.first && marks_fit p f.marks) h))

fields_of_class : (p : Program) (c : Class) → class_fits p c ≡ true → list_all (field_fits p c.name) c.fields ≡ true
unfolding class_fits fields_fit
fields_of_class p c h =
    let two = and_right (types_of_class_fit p c && (source_fits p c.source && marks_fit p c.marks)) (fields_fit p c.name c.fields && methods_fit p c.name c.methods) h in
    and_left (list_all (field_fits p c.name) c.fields) (list_all fields_in_order (neighbours c.fields) && all_differ own_field_key c.fields) (and_left (fields_fit p c.name c.fields) (methods_fit p c.name c.methods) two)

pub first_there : (p : Program) → is_well_formed p ≡ true → (class index : ℕ) (c : Class) (f : Field) → slice_get p.classes class ≡ Some c → slice_get c.fields index ≡ Some f → FirstThere p f.first
first_there p w class index c f e g =
    let s : Sound p = sound p w in
    field_first p c.name f (all_at (field_fits p c.name) c.fields index f (fields_of_class p c (all_at (class_fits p) p.classes class c s.classes_fit e)) g)

-- ---- each kind of first value

pub first_byte : (p : Program) (v : EncValue) (z : ℤ) (n : ℕ) → v ≡ own.Byte z → n ≡ cast_unsigned w32 z → Word n ≡ first_value (value_of p v)
first_byte p v z n e h = ap Word h ∙ sym (ap (λ (x : EncValue). first_value (value_of p x)) (e ∙ sym (own.rolls-Byte z)) ∙ first_is p (layer.Byte z))

pub first_short : (p : Program) (v : EncValue) (z : ℤ) (n : ℕ) → v ≡ own.Short z → n ≡ cast_unsigned w32 z → Word n ≡ first_value (value_of p v)
first_short p v z n e h = ap Word h ∙ sym (ap (λ (x : EncValue). first_value (value_of p x)) (e ∙ sym (own.rolls-Short z)) ∙ first_is p (layer.Short z))

pub first_int : (p : Program) (v : EncValue) (z : ℤ) (n : ℕ) → v ≡ own.Int z → n ≡ cast_unsigned w32 z → Word n ≡ first_value (value_of p v)
first_int p v z n e h = ap Word h ∙ sym (ap (λ (x : EncValue). first_value (value_of p x)) (e ∙ sym (own.rolls-Int z)) ∙ first_is p (layer.Int z))

pub first_long : (p : Program) (v : EncValue) (z : ℤ) (n : ℕ) → v ≡ own.Long z → n ≡ cast_unsigned w64 z → Low n ≡ first_value (value_of p v)
first_long p v z n e h = ap Low h ∙ sym (ap (λ (x : EncValue). first_value (value_of p x)) (e ∙ sym (own.rolls-Long z)) ∙ first_is p (layer.Long z))

pub first_char : (p : Program) (v : EncValue) (m n : ℕ) → v ≡ own.Char m → n ≡ m → Word n ≡ first_value (value_of p v)
first_char p v m n e h = ap Word h ∙ sym (ap (λ (x : EncValue). first_value (value_of p x)) (e ∙ sym (own.rolls-Char m)) ∙ first_is p (layer.Char m))

pub first_float : (p : Program) (v : EncValue) (m n : ℕ) → v ≡ own.Float m → n ≡ m → Word n ≡ first_value (value_of p v)
first_float p v m n e h = ap Word h ∙ sym (ap (λ (x : EncValue). first_value (value_of p x)) (e ∙ sym (own.rolls-Float m)) ∙ first_is p (layer.Float m))

pub first_double : (p : Program) (v : EncValue) (m n : ℕ) → v ≡ own.Double m → n ≡ m → Low n ≡ first_value (value_of p v)
first_double p v m n e h = ap Low h ∙ sym (ap (λ (x : EncValue). first_value (value_of p x)) (e ∙ sym (own.rolls-Double m)) ∙ first_is p (layer.Double m))

pub first_str : (p : Program) (v : EncValue) (m : ℕ) (x : Value) → v ≡ own.Str m → x ≡ Literal (text_at p m) → x ≡ first_value (value_of p v)
first_str p v m x e h = h ∙ sym (ap (λ (y : EncValue). first_value (value_of p y)) (e ∙ sym (own.rolls-Str m)) ∙ first_is p (layer.Str m))

pub first_class : (p : Program) (v : EncValue) (m : ℕ) (x : Value) → v ≡ own.Class m → x ≡ named.Class (type_at p m) → x ≡ first_value (value_of p v)
first_class p v m x e h = h ∙ sym (ap (λ (y : EncValue). first_value (value_of p y)) (e ∙ sym (own.rolls-Class m)) ∙ first_is p (layer.Class m))

truth_is : (n : state.Names) (b : Bool) → state.value_of n (cond b (datum.Word 1) (datum.Word 0)) ≡ truth b
truth_is n true = refl
truth_is n false = refl

pub first_bool : (n : state.Names) (p : Program) (v : EncValue) (b : Bool) (d : Datum) → v ≡ own.Bool b → d ≡ cond b (datum.Word 1) (datum.Word 0) → state.value_of n d ≡ first_value (value_of p v)
first_bool n p v b d e h = ap (state.value_of n) h ∙ truth_is n b ∙ sym (ap (λ (y : EncValue). first_value (value_of p y)) (e ∙ sym (own.rolls-Bool b)) ∙ first_is p (layer.Bool b))

-- what is there of a value
pub there_str : (p : Program) (v : EncValue) (m : ℕ) → v ≡ own.Str m → IsFirst p v → m < length p.strings
unfolding out-EncValue denote.Hole.Carrier.out roll-EncValue denote.Hole.Carrier.roll
there_str p v m e h = (subst (IsFirst p) (e ∙ sym (own.rolls-Str m)) h).there

pub there_class : (p : Program) (v : EncValue) (m : ℕ) → v ≡ own.Class m → IsFirst p v → m < length p.types
unfolding out-EncValue denote.Hole.Carrier.out roll-EncValue denote.Hole.Carrier.roll
there_class p v m e h = (subst (IsFirst p) (e ∙ sym (own.rolls-Class m)) h).there

-- a value has a layer
abbrev Layered : EncValue → Type 0
Layered v = (x : EncValue-F EncValue Element Note) × (v ≡ roll-EncValue x)

layered : (v : EncValue) → Layered v
layered = ind-EncValue Layered (λ e. Unit {0}) (λ n. Unit {0}) (λ x y is. (x, refl)) (λ x y is. tt) (λ x y is. tt)

module _ (q : Program) (v : EncValue) (nByte : (x : ℤ) → v ≡ own.Byte x → ⊥) (nShort : (x : ℤ) → v ≡ own.Short x → ⊥) (nChar : (x : ℕ) → v ≡ own.Char x → ⊥) (nInt : (x : ℤ) → v ≡ own.Int x → ⊥) (nLong : (x : ℤ) → v ≡ own.Long x → ⊥) (nFloat : (x : ℕ) → v ≡ own.Float x → ⊥) (nDouble : (x : ℕ) → v ≡ own.Double x → ⊥) (nStr : (x : ℕ) → v ≡ own.Str x → ⊥) (nClass : (x : ℕ) → v ≡ own.Class x → ⊥) (nBool : (x : Bool) → v ≡ own.Bool x → ⊥) where
  other_layer : (x : EncValue-F EncValue Element Note) → v ≡ roll-EncValue x → first_at q x ≡ Word 0
  other_layer (layer.Byte x) e = absurd (nByte x (e ∙ own.rolls-Byte x))
  other_layer (layer.Short x) e = absurd (nShort x (e ∙ own.rolls-Short x))
  other_layer (layer.Char x) e = absurd (nChar x (e ∙ own.rolls-Char x))
  other_layer (layer.Int x) e = absurd (nInt x (e ∙ own.rolls-Int x))
  other_layer (layer.Long x) e = absurd (nLong x (e ∙ own.rolls-Long x))
  other_layer (layer.Float x) e = absurd (nFloat x (e ∙ own.rolls-Float x))
  other_layer (layer.Double x) e = absurd (nDouble x (e ∙ own.rolls-Double x))
  other_layer (layer.Str x) e = absurd (nStr x (e ∙ own.rolls-Str x))
  other_layer (layer.Class x) e = absurd (nClass x (e ∙ own.rolls-Class x))
  other_layer (layer.Field x) e = refl
  other_layer (layer.Method x) e = refl
  other_layer (layer.Enum x) e = refl
  other_layer (layer.Array x) e = refl
  other_layer (layer.Annotation x) e = refl
  other_layer layer.Null e = refl
  other_layer (layer.Bool x) e = absurd (nBool x (e ∙ own.rolls-Bool x))

  pub first_other : Word 0 ≡ first_value (value_of q v)
  first_other = (let l = layered v in sym (ap (λ (y : EncValue). first_value (value_of q y)) l.1 ∙ first_is q l.0 ∙ other_layer l.0 l.1))
