-- Arrays that instructions measure and read, by names.
use Rattle.std.proofs.Common.{◌≡◌, ℕ, ◌+◌, ◌<◌, subst, Bool, true, false, List, length, arith, ap, refl, sym, ◌∙◌}
use Rattle.std.specs.Prelude.{◌^◌, Option, Some, None, min, slice_get}
use Rattle.dalvik_act.specs.Acting.{outline_of}
use Rattle.std.specs.Option.{option_map}
use lib.ListN.{length-map}
use Rattle.dalvik_defs.specs.State.{Thing, is_null, thing_at}
use Rattle.dalvik_defs.specs.declared.state.Value.TheVariants.{Word}
use Rattle.dalvik_defs.specs.declared.state.Frame.{Frame as NamedFrame}
use Rattle.dalvik_defs.specs.Effect.{Effect, Stuck, sets, unless_null}
use Rattle.dalvik_defs.specs.ActArray.{measures}
use Rattle.dalvik_lookups.specs.declared.types.Kind.{Kind}
use Rattle.dalvik_state.specs.declared.datum.Datum.{Datum}
use Rattle.dalvik_state.specs.declared.datum.Datum.TheVariants as datum
use Rattle.dalvik_state.specs.declared.world.World.{World as OwnWorld}
use Rattle.dalvik_state.specs.Worlds.{Shape, Plain, Array, Spot, IsShort, IsShortShape, shape_at, spots_of}
use Rattle.dalvik_state.specs.Views.{Names, value_of, thing_of, world_of}
use Rattle.dalvik_state.proofs.Things.{thing_named}

abbrev pub number_of : Datum → ℕ
number_of (datum.Object i) = i
number_of d = 0

shaped : (n : Names) (fields : List ((ℕ × ℕ) × Datum)) (j i : ℕ) (o : Option Spot) → j ≡ i
    → option_map (λ (s : Spot). thing_of n fields j s.shape) o ≡ option_map (thing_of n fields i) (option_map (λ (s : Spot). s.shape) o)
shaped n fields j i None e = refl
shaped n fields j i (Some s) e = ap (λ (k : ℕ). Some (thing_of n fields k s.shape)) e

-- what a value refers to, by numbers and by names
pub here : (n : Names) (w : OwnWorld) (d : Datum) → thing_at (world_of n w) (value_of n d) ≡ option_map (thing_of n w.fields.entries (number_of d)) (shape_at (spots_of w) d)
here n w (datum.Object i) = let e : 0 + i ≡ i = omega arith in thing_named n w.fields.entries 0 (spots_of w) i ∙ shaped n w.fields.entries (0 + i) i (slice_get (spots_of w) i) e
here n w (datum.Word x) = refl
here n w (datum.Low x) = refl
here n w (datum.High x) = refl
here n w (datum.Literal x) = refl
here n w (datum.Class x) = refl

-- what refers to a thing is not null
pub something : (n : Names) (spots : List Spot) (d : Datum) (s : Shape) → shape_at spots d ≡ Some s → is_null (value_of n d) ≡ false
something n spots (datum.Object i) s e = refl
something n spots (datum.Word x) s e = cc
something n spots (datum.Low x) s e = refl
something n spots (datum.High x) s e = refl
something n spots (datum.Literal x) s e = refl
something n spots (datum.Class x) s e = refl

-- the effect where there is something
pub unless_something : (n : Names) (spots : List Spot) (d : Datum) (s : Shape) (e : Effect) → shape_at spots d ≡ Some s → unless_null (value_of n d) e ≡ e
unless_something n spots d s e h = ap (λ (b : Bool). elim b [ true ↦ unless_null (Word 0) e | false ↦ e ]) (something n spots d s h)

short_spot : (o : Option Spot) (kind : Kind) (items : List Datum) → ((s : Spot) → o ≡ Some s → IsShortShape s.shape) → option_map (λ (s : Spot). s.shape) o ≡ Some (Array kind items) → IsShortShape (Array kind items)
short_spot None kind items h e = absurd (cc)
short_spot (Some s) kind items h e = let same : s.shape ≡ Array kind items = cc in subst IsShortShape same (h s refl)

-- an array that is there is short
short_at : (spots : List Spot) (d : Datum) (kind : Kind) (items : List Datum) → IsShort spots → shape_at spots d ≡ Some (Array kind items) → IsShortShape (Array kind items)
short_at spots (datum.Object i) kind items h e = short_spot (slice_get spots i) kind items (h.at i) e
short_at spots (datum.Word x) kind items h e = absurd (cc)
short_at spots (datum.Low x) kind items h e = absurd (cc)
short_at spots (datum.High x) kind items h e = absurd (cc)
short_at spots (datum.Literal x) kind items h e = absurd (cc)
short_at spots (datum.Class x) kind items h e = absurd (cc)

module _ (n : Names) (w : OwnWorld) (f : NamedFrame) (d : Datum) (to : ℕ) where
  there : (o : Option Shape) → shape_at (spots_of w) d ≡ o → thing_at (world_of n w) (value_of n d) ≡ option_map (thing_of n w.fields.entries (number_of d)) o
  there o e = here n w d ∙ ap (option_map (thing_of n w.fields.entries (number_of d))) e

  pub measured : (kind : Kind) (items : List Datum) → shape_at (spots_of w) d ≡ Some (Array kind items)
      → sets (world_of n w) f to (Word (length items)) ≡ unless_null (value_of n d) (measures (thing_at (world_of n w) (value_of n d)) (world_of n w) f to)
  measured kind items e = sym (unless_something n (spots_of w) d (Array kind items) (measures (thing_at (world_of n w) (value_of n d)) (world_of n w) f to) e
      ∙ ap (λ (t : Option Thing). measures t (world_of n w) f to) (there (Some (Array kind items)) e)
      ∙ ap (λ (k : ℕ). sets (world_of n w) f to (Word k)) (length-map items (value_of n)))

  pub unmeasured : (o : Option Shape) → shape_at (spots_of w) d ≡ o → ((kind : Kind) (items : List Datum) → o ≡ Some (Array kind items) → ⊥)
      → unless_null (value_of n d) Stuck ≡ unless_null (value_of n d) (measures (thing_at (world_of n w) (value_of n d)) (world_of n w) f to)
  unmeasured None e never = ap (λ (t : Option Thing). unless_null (value_of n d) (measures t (world_of n w) f to)) (sym (there None e))
  unmeasured (Some (Plain kind)) e never = ap (λ (t : Option Thing). unless_null (value_of n d) (measures t (world_of n w) f to)) (sym (there (Some (Plain kind)) e))
  unmeasured (Some (Array kind items)) e never = absurd (never kind items refl)

  -- the length, as it is read of the outline
  pub measured_by : (kind : Kind) (len x : ℕ) → IsShort (spots_of w) → outline_of (shape_at (spots_of w) d) ≡ Some (kind, len) → x ≡ min len 4294967295
      → sets (world_of n w) f to (Word x) ≡ unless_null (value_of n d) (measures (thing_at (world_of n w) (value_of n d)) (world_of n w) f to)
  measured_by kind len x short h e = by_shape (shape_at (spots_of w) d) refl h
    where
      by_shape : (o : Option Shape) → shape_at (spots_of w) d ≡ o → outline_of o ≡ Some (kind, len) → sets (world_of n w) f to (Word x) ≡ unless_null (value_of n d) (measures (thing_at (world_of n w) (value_of n d)) (world_of n w) f to)
      by_shape None s g = absurd (cc)
      by_shape (Some (Plain k)) s g = absurd (cc)
      by_shape (Some (Array k items)) s g =
          let pair : ◌≡◌ {A = Kind × ℕ} (kind, len) (k, length items) = cc in
          let same : len ≡ length items = ap (λ (p : Kind × ℕ). p.1) pair in
          let below : length items < 2 ^ 32 = short_at (spots_of w) d k items short s in
          let whole : x ≡ length items = omega arith in
          ap (λ (y : ℕ). sets (world_of n w) f to (Word y)) whole ∙ measured k items s

  pub unmeasured_by : outline_of (shape_at (spots_of w) d) ≡ None
      → unless_null (value_of n d) Stuck ≡ unless_null (value_of n d) (measures (thing_at (world_of n w) (value_of n d)) (world_of n w) f to)
  unmeasured_by h = unmeasured (shape_at (spots_of w) d) refl (λ k items s. let no : outline_of (Some (Array k items)) ≡ None = ap outline_of (sym s) ∙ h in cc)
