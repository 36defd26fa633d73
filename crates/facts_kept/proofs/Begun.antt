-- What a field holds before it is written, and one that the framework may write, by names as by number.
use Rattle.std.proofs.Common.{◌≡◌, ℕ, suc, ◌<◌, ◌≤◌, ◌⊎◌, inl, inr, Bool, true, false, true≢false, List, [], ◌∷◌, length, Option, Some, None, refl, sym, ap, ◌∙◌, subst, arith}
use Rattle.std.specs.Prelude.{◌&&◌, ◌||◌, cond, slice_get, option_and_then, Contains}
use Rattle.std.specs.Int.{w32, w64, cast_unsigned}
use Rattle.std.specs.List.{list_any}
use Rattle.std.specs.Option.{option_map}
use Rattle.std.proofs.lemmas.Bool.{cases_lt}
use Rattle.std.proofs.lemmas.Option.{slice_get_past}
use Rattle.lemmas.proofs.Options.{none_some}
use Rattle.program_model.specs.MemberRules.{field_letter}
use Rattle.program_model.specs.Texts as texts
use Rattle.program_model.specs.Texts.{letter_of}
use Rattle.program_model.specs.declared.pass.Outside.{Outside}
use Rattle.program_model.specs.declared.pools.FieldName.{FieldName}
use Rattle.program_model.specs.declared.program.Class.{Class}
use Rattle.program_model.specs.declared.program.Field.{Field}
use Rattle.program_model.specs.declared.program.Program.{Program}
use Rattle.program_model.specs.declared.value.Element.{Element, fold-Element}
use Rattle.program_model.specs.declared.value.EncValue.{EncValue, EncValue-F, fold-roll-EncValue, roll-EncValue, out-EncValue}
use Rattle.program_model.specs.declared.value.EncValue.TheOpen as layer
use Rattle.program_model.specs.declared.value.EncValue.TheViews.{out-roll-EncValue}
use Rattle.program_model.specs.declared.value.EncValue.TheFolds as folds
use Rattle.program_model.specs.declared.value.EncValue.TheFolds.{ind-EncValue}
use Rattle.program_model.specs.declared.value.Note.{Note}
use Rattle.class_defs.proofs.WellFormed.{and_left, and_right, Sound}
use Rattle.dalvik_defs.specs.ActPlain.{truth}
use Rattle.dalvik_defs.specs.Face.{place_of}
use Rattle.dalvik_defs.specs.Fields.{first_layer, first_of, first_value}
use Rattle.dalvik_defs.specs.Find.{defined_field, field_in}
use Rattle.dalvik_defs.specs.Flags.{is_static}
use Rattle.dalvik_defs.specs.Names as name
use Rattle.dalvik_defs.specs.Names.{field_eq, text_eq}
use Rattle.dalvik_defs.specs.Naming as naming
use Rattle.dalvik_defs.specs.Naming.{field_at, named, named_class, named_field, note_of, text_at, type_at, value_of}
use Rattle.dalvik_defs.specs.Outer.{outer_of}
use Rattle.dalvik_defs.specs.State.{zero_of}
use Rattle.dalvik_defs.specs.Under.{class_named}
use Rattle.dalvik_defs.specs.declared.encoded.NamedElement.{NamedElement}
use Rattle.dalvik_defs.specs.declared.encoded.NamedNote.{NamedNote}
use Rattle.dalvik_defs.specs.declared.encoded.NamedValue.{NamedValue, fold-roll-NamedValue}
use Rattle.dalvik_defs.specs.declared.encoded.NamedValue.TheOpen as named_layer
use Rattle.dalvik_defs.specs.declared.encoded.NamedValue.TheVariants as variant
use Rattle.dalvik_defs.specs.declared.names.FieldKey.{FieldKey}
use Rattle.dalvik_defs.specs.declared.program.NamedClass.{NamedClass}
use Rattle.dalvik_defs.specs.declared.program.NamedField.{NamedField}
use Rattle.dalvik_defs.specs.declared.state.Value.{Value}
use Rattle.dalvik_defs.specs.declared.state.Value.TheVariants.{Word, Low, Literal, Class as ClassOf}
use Rattle.dalvik_defs.proofs.Calm.{text_sound}
use Rattle.domains.specs.Values.{any_value, constant_value, wide_value}
use Rattle.name_bridge.proofs.Flags.{static_flag}
use Rattle.name_bridge.proofs.Tables.{field_is, field_once}
use Rattle.removal_bridge.proofs.Members.{letter_same}
use Rattle.facts.specs.declared.facts.Facts as table
use Rattle.closed_facts.specs.Edges.{value_by}
use Rattle.closed_facts.specs.Fields as number
use Rattle.closed_facts.specs.Found as found
use Rattle.pass_defs.specs.Facts.{begun_with}
use Rattle.run_facts.specs.ValueAnalysis.{known_value}
use Rattle.facts_kept.specs.Names.{named_facts, values}
use Rattle.facts_kept.proofs.Defining.{named_class_type}
use Rattle.facts_kept.proofs.Fielding.{own_field_key}
use Rattle.facts_kept.proofs.Numbers.{IsFieldNumber, field_sound, number_of_field}
use Rattle.facts_kept.proofs.Places.{found_at}
use Rattle.facts_kept.proofs.Values.{no_entry}

-- ---- first values

element_of : Program → Element → NamedElement
element_of p e = fold-Element NamedValue NamedElement NamedNote (naming.value_layer p) (naming.element_layer p) (naming.note_layer p) e

abbrev of_layer : Program → EncValue-F EncValue Element Note → NamedValue
of_layer p x = naming.value_layer p (folds.map-EncValue EncValue Element Note NamedValue NamedElement NamedNote (value_of p) (element_of p) (note_of p) x)

known : (v : NamedValue) (x : Value) → first_value v ≡ x → known_value (first_value v) ≡ known_value x
known v x e = ap known_value e

truth_known : (b : Bool) → known_value (truth b) ≡ number.truth_parts b
truth_known true = refl
truth_known false = refl

layer_known : (p : Program) (x : EncValue-F EncValue Element Note) → known_value (first_value (of_layer p x)) ≡ number.layer_parts x
layer_known p (layer.Byte z) = known (variant.Byte z) (Word (cast_unsigned w32 z)) (ap (λ (v : NamedValue). first_value v) (sym (variant.rolls-Byte z)) ∙ fold-roll-NamedValue Value Value Value first_layer (λ e. Word 0) (λ n. Word 0) (named_layer.Byte z))
layer_known p (layer.Short z) = known (variant.Short z) (Word (cast_unsigned w32 z)) (ap (λ (v : NamedValue). first_value v) (sym (variant.rolls-Short z)) ∙ fold-roll-NamedValue Value Value Value first_layer (λ e. Word 0) (λ n. Word 0) (named_layer.Short z))
layer_known p (layer.Char n) = known (variant.Char n) (Word n) (ap (λ (v : NamedValue). first_value v) (sym (variant.rolls-Char n)) ∙ fold-roll-NamedValue Value Value Value first_layer (λ e. Word 0) (λ n. Word 0) (named_layer.Char n))
layer_known p (layer.Int z) = known (variant.Int z) (Word (cast_unsigned w32 z)) (ap (λ (v : NamedValue). first_value v) (sym (variant.rolls-Int z)) ∙ fold-roll-NamedValue Value Value Value first_layer (λ e. Word 0) (λ n. Word 0) (named_layer.Int z))
layer_known p (layer.Long z) = known (variant.Long z) (Low (cast_unsigned w64 z)) (ap (λ (v : NamedValue). first_value v) (sym (variant.rolls-Long z)) ∙ fold-roll-NamedValue Value Value Value first_layer (λ e. Word 0) (λ n. Word 0) (named_layer.Long z))
layer_known p (layer.Float n) = known (variant.Float n) (Word n) (ap (λ (v : NamedValue). first_value v) (sym (variant.rolls-Float n)) ∙ fold-roll-NamedValue Value Value Value first_layer (λ e. Word 0) (λ n. Word 0) (named_layer.Float n))
layer_known p (layer.Double n) = known (variant.Double n) (Low n) (ap (λ (v : NamedValue). first_value v) (sym (variant.rolls-Double n)) ∙ fold-roll-NamedValue Value Value Value first_layer (λ e. Word 0) (λ n. Word 0) (named_layer.Double n))
layer_known p (layer.Str n) = known (variant.Str (text_at p n)) (Literal (text_at p n)) (ap (λ (v : NamedValue). first_value v) (sym (variant.rolls-Str (text_at p n))) ∙ fold-roll-NamedValue Value Value Value first_layer (λ e. Word 0) (λ n. Word 0) (named_layer.Str (text_at p n)))
layer_known p (layer.Class n) = known (variant.Class (type_at p n)) (ClassOf (type_at p n)) (ap (λ (v : NamedValue). first_value v) (sym (variant.rolls-Class (type_at p n))) ∙ fold-roll-NamedValue Value Value Value first_layer (λ e. Word 0) (λ n. Word 0) (named_layer.Class (type_at p n)))
layer_known p (layer.Bool b) = known (variant.Bool b) (truth b) (ap (λ (v : NamedValue). first_value v) (sym (variant.rolls-Bool b)) ∙ fold-roll-NamedValue Value Value Value first_layer (λ e. Word 0) (λ n. Word 0) (named_layer.Bool b)) ∙ truth_known b
layer_known p (layer.Field n) = known (variant.Field (field_at p n)) (Word 0) (ap (λ (v : NamedValue). first_value v) (sym (variant.rolls-Field (field_at p n))) ∙ fold-roll-NamedValue Value Value Value first_layer (λ e. Word 0) (λ n. Word 0) (named_layer.Field (field_at p n)))
layer_known p (layer.Method n) = known (variant.Method (naming.method_at p n)) (Word 0) (ap (λ (v : NamedValue). first_value v) (sym (variant.rolls-Method (naming.method_at p n))) ∙ fold-roll-NamedValue Value Value Value first_layer (λ e. Word 0) (λ n. Word 0) (named_layer.Method (naming.method_at p n)))
layer_known p (layer.Enum n) = known (variant.Enum (field_at p n)) (Word 0) (ap (λ (v : NamedValue). first_value v) (sym (variant.rolls-Enum (field_at p n))) ∙ fold-roll-NamedValue Value Value Value first_layer (λ e. Word 0) (λ n. Word 0) (named_layer.Enum (field_at p n)))
layer_known p (layer.Array vs) = array (of_layer p (layer.Array vs)) refl
  where
    array : (v : NamedValue) → of_layer p (layer.Array vs) ≡ v → known_value (first_value (of_layer p (layer.Array vs))) ≡ constant_value 0
    array v e = known (of_layer p (layer.Array vs)) (Word 0) (ap (λ (v : NamedValue). first_value v) (sym (variant.rolls-Array _)) ∙ fold-roll-NamedValue Value Value Value first_layer (λ e. Word 0) (λ n. Word 0) (named_layer.Array _))
layer_known p (layer.Annotation n) = known (variant.Annotation (note_of p n)) (Word 0) (ap (λ (v : NamedValue). first_value v) (sym (variant.rolls-Annotation (note_of p n))) ∙ fold-roll-NamedValue Value Value Value first_layer (λ e. Word 0) (λ n. Word 0) (named_layer.Annotation (note_of p n)))
layer_known p layer.Null = known variant.Null (Word 0) (ap (λ (v : NamedValue). first_value v) (sym variant.rolls-Null) ∙ fold-roll-NamedValue Value Value Value first_layer (λ e. Word 0) (λ n. Word 0) named_layer.Null)

abbrev IsKnown : Program → EncValue → Type 0
IsKnown p v = known_value (first_value (value_of p v)) ≡ number.layer_parts (out-EncValue v)

roll_known : (p : Program) (x : EncValue-F EncValue Element Note) → IsKnown p (roll-EncValue x)
roll_known p x =
    ap (λ (v : NamedValue). known_value (first_value v)) (fold-roll-EncValue NamedValue NamedElement NamedNote (naming.value_layer p) (naming.element_layer p) (naming.note_layer p) x)
    ∙ layer_known p x ∙ ap number.layer_parts (sym (out-roll-EncValue x))

pub value_known : (p : Program) (v : EncValue) → IsKnown p v
value_known p = ind-EncValue (IsKnown p) (λ e. Unit {0}) (λ n. Unit {0}) (λ x y is. roll_known p x) (λ x y is. tt) (λ x y is. tt)

-- ---- a field of the program

any_contains : {A : Type 0} (t : A → Bool) (xs : List A) → list_any t xs ≡ true → (x : A) × (Contains xs x × (t x ≡ true))
any_contains t [] h = absurd (true≢false (sym h))
any_contains {A} t (y ∷ ys) h = by (t y) refl h (any_contains t ys)
  where
    by : (b : Bool) → t y ≡ b → (b || list_any t ys) ≡ true → (list_any t ys ≡ true → (x : A) × (Contains ys x × (t x ≡ true))) → (x : A) × (Contains (y ∷ ys) x × (t x ≡ true))
    by true e h more = (y, ((0, omega arith, refl), e))
    by false e h more = let r = more h in let low = r.1.0.1 in (r.0, ((suc r.1.0.0, omega (arith, low), r.1.0.2), r.1.1))

module _ (p : Program) (s : Sound p) where
  wide_same : (k : ℕ) → texts.is_wide (letter_of p k) ≡ name.is_wide (type_at p k)
  wide_same k = letter_same p s texts.is_wide name.is_wide refl (λ u us. refl) k

  -- the field that a class itself defines under a name, by its places
  pub record OwnField (k : FieldKey) (f : NamedField) : Type 0 where
    pub at : ℕ × ℕ
    pub field : Field
    pub there : found.field_in p at ≡ Some field
    pub is : named_field p field ≡ f
    pub number : IsFieldNumber p s k field.name
    pub classed : k.class ≡ [] → ⊥

  pub own_field : (k : FieldKey) (f : NamedField) → defined_field (named p) k ≡ Some f → OwnField k f
  own_field k f e = by (class_named (named p) k.class) refl e
    where
      by : (o : Option NamedClass) → class_named (named p) k.class ≡ o → (elim o as (λ o. Option NamedField) [ Some c ↦ field_in c k.name k.kind | None ↦ None ]) ≡ Some f → OwnField k f
      by None i h = none_some f h
      by (Some c) i h =
          let x = found_at (named_class p) (λ c. text_eq c.name k.class) p.classes c i in
          let y = found_at (named_field p) (λ f. text_eq f.name k.name && text_eq f.kind k.kind) x.entry.fields f (subst (λ c. field_in c k.name k.kind ≡ Some f) (sym x.is) h) in
          let key = own_field_key p s x.place y.place x.entry y.entry x.is_entry y.is_entry in
          let class : type_at p x.entry.name ≡ k.class = ap (λ c. c.name) x.is ∙ text_sound c.name k.class x.passes in
          let name : (named_field p y.entry).name ≡ k.name = ap (λ f. f.name) y.is ∙ text_sound f.name k.name (and_left (text_eq f.name k.name) (text_eq f.kind k.kind) y.passes) in
          let kind : (named_field p y.entry).kind ≡ k.kind = ap (λ f. f.kind) y.is ∙ text_sound f.kind k.kind (and_right (text_eq f.name k.name) (text_eq f.kind k.kind) y.passes) in
          record {
            at = (x.place, y.place);
            field = y.entry;
            there = ap (λ o. option_and_then (λ c. slice_get c.fields y.place) o) x.is_entry ∙ y.is_entry;
            is = y.is;
            number = record { low = key.low; named = key.named ∙ (λ i. record { class = class i; name = name i; kind = kind i }) };
            classed = λ empty. named_class_type p s x.place x.entry x.is_entry (class ∙ empty);
          }

  zero_known : (k : FieldKey) (f : ℕ) → IsFieldNumber p s k f → known_value (zero_of k.kind) ≡ number.zero_parts p f
  zero_known k f h = by (slice_get p.fields f) refl
    where
      of_wide : (b : Bool) → known_value (elim b as (λ b. Value) [ true ↦ Low 0 | false ↦ Word 0 ]) ≡ cond b (wide_value 0) (constant_value 0)
      of_wide true = refl
      of_wide false = refl

      by : (o : Option FieldName) → slice_get p.fields f ≡ o → known_value (zero_of k.kind) ≡ number.zero_parts p f
      by None e = absurd (no_entry p.fields f e h.low)
      by (Some x) e =
          of_wide (name.is_wide k.kind)
          ∙ ap (λ b. cond b (wide_value 0) (constant_value 0)) (ap (λ k. name.is_wide k.kind) (sym h.named ∙ field_is p s f x e) ∙ sym (wide_same x.kind) ∙ ap (λ o. texts.is_wide (field_letter p o)) (sym e))

  begun_known : (k : FieldKey) (f : Field) → IsFieldNumber p s k f.name → known_value (begun_with k (named_field p f)) ≡ number.begun_parts p f
  begun_known k f h = by (is_static f.flags.0) ∙ ap (λ b. cond b (number.first_parts p f f.first) (number.zero_parts p f.name)) (sym (static_flag f.flags))
    where
      first_known : (o : Option EncValue) → known_value (elim (option_map (value_of p) o) as (λ o. Value) [ Some v ↦ first_value v | None ↦ zero_of k.kind ]) ≡ number.first_parts p f o
      first_known None = zero_known k f.name h
      first_known (Some v) = value_known p v

      by : (b : Bool) → known_value (elim b as (λ b. Value) [ true ↦ first_of k (place_of k.class (named_field p f)) | false ↦ zero_of k.kind ]) ≡ cond b (number.first_parts p f f.first) (number.zero_parts p f.name)
      by true = first_known f.first
      by false = zero_known k f.name h

  -- a number past the table names no class
  past_field : (n : ℕ) → length p.fields ≤ n → (field_at p n).class ≡ []
  past_field n le = ap (λ x. (elim x as (λ x. FieldKey) [ Some f ↦ record { class = type_at p f.class; name = text_at p f.name; kind = type_at p f.kind } | None ↦ record { class = []; name = []; kind = [] } ]).class) (slice_get_past p.fields n le)

  module _ (outside : Outside) (t : table.Facts) (holds : number.HoldsFields p outside t) where
    at_own : (k : FieldKey) (f : ℕ) → IsFieldNumber p s k f → (named_facts p t).fields k ≡ value_by t (Some f)
    at_own k f h = ap (value_by t) (number_of_field p s k f h)

    pub firsts_named : (k : FieldKey) (f : NamedField) → defined_field (named p) k ≡ Some f → (values p).below ((values p).known (begun_with k f)) ((named_facts p t).fields k)
    firsts_named k f e =
        let own = own_field k f e in
        subst (λ f. (values p).below ((values p).known (begun_with k f)) ((named_facts p t).fields k)) own.is
        (subst (λ v. (values p).below v ((named_facts p t).fields k)) (sym (begun_known k own.field own.number))
        (subst (λ v. (values p).below (number.begun_parts p own.field) v) (sym (at_own k own.field.name own.number)) (holds.firsts own.at own.field own.there)))

    -- a field that the framework may write is one of the table, as a number past it names none of a class
    pub opened_named : (k : FieldKey) (f : NamedField) → defined_field (named p) k ≡ Some f → (outer_of p outside).fields k ≡ true → (values p).below (values p).any ((named_facts p t).fields k)
    opened_named k f e h = by (cases_lt r.0 (length p.fields))
      where
        own : OwnField k f
        own = own_field k f e

        r : (n : ℕ) × (Contains outside.fields n × (field_eq (field_at p n) k ≡ true))
        r = any_contains (λ n. field_eq (field_at p n) k) outside.fields h

        by : (r.0 < length p.fields) ⊎ (length p.fields ≤ r.0) → (values p).below (values p).any ((named_facts p t).fields k)
        by (inl low) =
            let same : r.0 ≡ own.field.name = field_once p s r.0 own.field.name low own.number.low (field_sound (field_at p r.0) k r.1.1 ∙ sym own.number.named) in
            subst (λ v. (values p).below any_value v) (sym (at_own k own.field.name own.number)) (holds.opened own.at own.field own.there (subst (λ n. Contains outside.fields n) same r.1.0))
        by (inr past) = absurd (own.classed (ap (λ k. k.class) (sym (field_sound (field_at p r.0) k r.1.1)) ∙ past_field r.0 past))
