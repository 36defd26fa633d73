-- Which values fit a type, by numbers and by names.
use Rattle.std.proofs.Common.{◌≡◌, Bool, true, false, nat_eq, ap, refl, sym, subst, ◌∙◌}
use Rattle.std.specs.Prelude.{◌&&◌, ◌||◌, not}
use Rattle.dalvik_defs.specs.Face.{is_plain_class}
use Rattle.dalvik_defs.specs.Gives.{fits, is_on, may_give, may_throw, reference_fits, value_fits}
use Rattle.dalvik_defs.specs.Names.{Text, is_array, is_reference, throwable_type}
use Rattle.dalvik_defs.specs.Outer.{Outer}
use Rattle.dalvik_defs.specs.State.{World, kind_of}
use Rattle.dalvik_defs.specs.declared.state.Value.{Value}
use Rattle.dalvik_defs.specs.declared.state.Value.TheVariants as value
use Rattle.dalvik_defs.specs.declared.script.Given.{Given}
use Rattle.dalvik_lookups.specs.declared.lookups.Lookups.{Lookups}
use Rattle.dalvik_lookups.specs.declared.plays.Gift.{Gift}
use Rattle.dalvik_lookups.specs.declared.types.Kind.{Kind}
use Rattle.dalvik_lookups.specs.Facing.{run_face}
use Rattle.dalvik_lookups.specs.Playing.{given_of, IsGift}
use Rattle.dalvik_lookups.specs.Views.{type_text, AreTypes, IsKind}
use Rattle.dalvik_lookups.proofs.Descriptors.{known_at, known_kind}

module _ (l : Lookups) where
  -- null is under nothing
  nothing : (b : Bool) → not b && false ≡ false
  nothing true = refl
  nothing false = refl

  on_under : (w : World) (v : Value) (t : Text) → is_on (run_face l) w v t ≡ (run_face l).under (kind_of w v) t
  on_under w (value.Word n) t = nothing (nat_eq n 0)
  on_under w (value.Low n) t = refl
  on_under w (value.High n) t = refl
  on_under w (value.Object n) t = refl
  on_under w (value.Literal s) t = refl
  on_under w (value.Class s) t = refl

  -- ---- an object for a type

  abbrev strict : Text → Bool
  strict t = is_plain_class (run_face l) t || is_array t

  abbrev fits_by : World → Value → Text → Bool → Bool
  fits_by w v t b = elim b as (λ b. Bool) [ true ↦ (run_face l).under (kind_of w v) t | false ↦ is_reference t ]

  pub under_fits : (w : World) (v : Value) (t : Text) → strict t ≡ true → is_on (run_face l) w v t ≡ reference_fits (run_face l) w v t
  under_fits w v t e = on_under w v t ∙ sym (ap (fits_by w v t) e)

  pub other_fits : (w : World) (v : Value) (t : Text) → strict t ≡ false → is_reference t ≡ reference_fits (run_face l) w v t
  other_fits w v t e = sym (ap (fits_by w v t) e)

  -- ---- a value for a type

  abbrev found_by : Gift → World → Value → Text → Bool → Type 0
  found_by g w v t b = b ≡ value_fits (run_face l) w (given_of l.types l.texts g) v t

  pub as_given : (g : Given) (what : Gift) (w : World) (v : Value) (t : Text) (b : Bool) → IsGift l.types l.texts g what → b ≡ value_fits (run_face l) w (given_of l.types l.texts what) v t → b ≡ value_fits (run_face l) w g v t
  as_given g what w v t b h e = subst (λ (x : Given). b ≡ value_fits (run_face l) w x v t) h.is e

  -- ---- a value that may be given

  pub not_allowed : (outer : Outer) (w u : World) (g : Given) (v : Value) (t : Text) (allowed : Bool) → allowed ≡ may_give (run_face l) outer w g → allowed ≡ false → false ≡ fits (run_face l) outer w u g v t
  not_allowed outer w u g v t allowed h e = ap (λ (b : Bool). b && value_fits (run_face l) u g v t) (sym e ∙ h)

  pub is_allowed : (outer : Outer) (w u : World) (g : Given) (v : Value) (t : Text) (allowed : Bool) → allowed ≡ may_give (run_face l) outer w g → allowed ≡ true → value_fits (run_face l) u g v t ≡ fits (run_face l) outer w u g v t
  is_allowed outer w u g v t allowed h e = ap (λ (b : Bool). b && value_fits (run_face l) u g v t) (sym e ∙ h)

  -- ---- what may be thrown

  pub throwable_is : AreTypes l.types → type_text l.types (record { depth = 0; base = 3 }) ≡ throwable_type
  throwable_is a = known_at l.types a 3 throwable_type refl

  pub throwable_there : AreTypes l.types → IsKind l.types (record { depth = 0; base = 3 })
  throwable_there a = known_kind l.types a 3 throwable_type refl refl

  -- a number of the type
  module _ (k : Kind) (is : k ≡ record { depth = 0; base = 3 }) (a : AreTypes l.types) where
    kind_is : type_text l.types k ≡ throwable_type
    kind_is = ap (type_text l.types) is ∙ throwable_is a

    pub kind_stands : IsKind l.types k
    kind_stands = subst (IsKind l.types) (sym is) (throwable_there a)

    pub thrown : (outer : Outer) (w u : World) (g : Given) (v : Value) (b : Bool) → true ≡ fits (run_face l) outer w u g v (type_text l.types k) → b ≡ is_on (run_face l) u v (type_text l.types k) → b ≡ may_throw (run_face l) outer w u g v
    thrown outer w u g v b f on =
        on ∙ ap (is_on (run_face l) u v) kind_is
        ∙ ap (λ (x : Bool). x && is_on (run_face l) u v throwable_type) (f ∙ ap (fits (run_face l) outer w u g v) kind_is)

    pub not_thrown : (outer : Outer) (w u : World) (g : Given) (v : Value) → false ≡ fits (run_face l) outer w u g v (type_text l.types k) → false ≡ may_throw (run_face l) outer w u g v
    not_thrown outer w u g v f = ap (λ (x : Bool). x && is_on (run_face l) u v throwable_type) (f ∙ ap (fits (run_face l) outer w u g v) kind_is)
