-- What a static field holds before it is written, by numbers and by names.
use Rattle.std.proofs.Common.{◌≡◌, ℕ, ◌<◌, [], length, ap, refl, sym, subst, ◌∙◌}
use Rattle.std.specs.Prelude.{Option, Some, None, slice_get}
use Rattle.std.specs.Option.{option_and_then, option_map}
use Rattle.program_model.specs.declared.program.Class.{Class}
use Rattle.program_model.specs.declared.program.Field.{Field}
use Rattle.program_model.specs.declared.program.Program.{Program}
use Rattle.dalvik_defs.specs.Face.{Place}
use Rattle.dalvik_defs.specs.Fields.{first_of, first_value}
use Rattle.dalvik_defs.specs.Names.{Text}
use Rattle.dalvik_defs.specs.Naming.{type_at, value_of}
use Rattle.dalvik_defs.specs.State.{zero_of}
use Rattle.dalvik_defs.specs.declared.encoded.NamedValue.{NamedValue}
use Rattle.dalvik_defs.specs.declared.names.FieldKey.{FieldKey}
use Rattle.dalvik_defs.specs.declared.state.Value.{Value}
use Rattle.dalvik_lookups.specs.Tables.{IsRight}
use Rattle.dalvik_lookups.specs.declared.lookups.Lookups.{Lookups}
use Rattle.dalvik_steps.specs.Reaching.{first_or_zero, FirstThere, IsFieldOf}
use Rattle.dalvik_lookups.proofs.Interned.{got_short}
use Rattle.dalvik_state.specs.States.{class_text}
use Rattle.dalvik_steps.proofs.FieldPlaces.{field_stands_at}
use Rattle.dalvik_steps.proofs.Firsts.{first_there}

abbrev field_in : Program → ℕ → ℕ → Option Field
field_in p class index = option_and_then (λ (c : Class). slice_get c.fields index) (slice_get p.classes class)

by_first : (k : FieldKey) (o : Option NamedValue) → first_or_zero o k.kind ≡ elim o as (λ o. Value) [ Some v ↦ first_value v | None ↦ zero_of k.kind ]
by_first k None = refl
by_first k (Some v) = refl

module _ (l : Lookups) (r : IsRight l) (k : FieldKey) (at : Place) (class index : ℕ) (h : IsFieldOf l k at class index) where
  -- the field at the place is the one that was found
  same_field : (g : Field) → Some g ≡ field_in l.program.now class index → g ≡ (field_stands_at l k at class index h).field
  same_field g e =
      let st = field_stands_at l k at class index h in
      let all : Some g ≡ Some st.field = e ∙ ap (option_and_then (λ (c : Class). slice_get c.fields index)) st.within ∙ st.is in
      cc

  pub first_named : (g : Field) (t : Text) (v : Value) → Some g ≡ field_in l.program.now class index → t ≡ k.kind → v ≡ first_or_zero (option_map (value_of l.program.now) g.first) t → v ≡ first_of k at
  first_named g t v e same is =
      let st = field_stands_at l k at class index h in
      is
      ∙ (λ i. first_or_zero (option_map (value_of l.program.now) (same_field g e i).first) (same i))
      ∙ by_first k (option_map (value_of l.program.now) st.field.first)
      ∙ sym (ap (λ (x : Place). first_of k x) st.named)

  pub first_stands : (g : Field) → Some g ≡ field_in l.program.now class index → FirstThere l.program.now g.first
  first_stands g e =
      let st = field_stands_at l k at class index h in
      subst (λ (f : Field). FirstThere l.program.now f.first) (sym (same_field g e)) (first_there l.program.now r.well class index st.class_is st.field st.within st.is)

  pub first_nowhere : (X : Type 0) → None ≡ field_in l.program.now class index → X
  first_nowhere X e =
      let st = field_stands_at l k at class index h in
      let all : None ≡ Some st.field = e ∙ ap (option_and_then (λ (c : Class). slice_get c.fields index)) st.within ∙ st.is in
      absurd (cc)

-- the class of the field that was found
pub place_low : (l : Lookups) (k : FieldKey) (at : Place) (class index : ℕ) → IsFieldOf l k at class index → class < length l.program.now.classes
place_low l k at class index h = (let st = field_stands_at l k at class index h in got_short l.program.now.classes class st.class_is st.within)

pub place_class : (l : Lookups) (k : FieldKey) (at : Place) (class index : ℕ) → IsFieldOf l k at class index → class_text l.program.now class ≡ at.class
place_class l k at class index h =
    let st = field_stands_at l k at class index h in
    ap (λ o. elim o as (λ o. Text) [ Some d ↦ type_at l.program.now d.name | None ↦ [] ]) st.within ∙ sym (ap (λ (x : Place). x.class) st.named)
