-- What the framework gives and enters, for a table with other silent and shut methods.
use Rattle.std.proofs.Common.{◌≡◌, Bool, true, false, List, [], ◌∷◌, Option, Some, None, find, refl, sym, ap, ◌∙◌}
use Rattle.std.specs.Prelude.{◌&&◌, ◌||◌, not, Contains}
use Rattle.std.specs.Option.{option_map}
use Rattle.dalvik_defs.specs.Face.{Face, Place, declared_in}
use Rattle.dalvik_defs.specs.Find.{Found, found_in}
use Rattle.dalvik_defs.specs.Flags.{is_static, is_virtual}
use Rattle.dalvik_defs.specs.Gives.{gets, may_give, fits, value_fits, all_fit, may_throw, is_on}
use Rattle.dalvik_defs.specs.Legal.{is_class_initialiser, is_found, answers_kept, calls_back, may_reach, receiver_ok, may_enter_found, may_enter, may_answer, on_fits}
use Rattle.dalvik_defs.specs.Names.{Text, is_common, throwable_type}
use Rattle.dalvik_defs.specs.Outer.{Outer}
use Rattle.dalvik_defs.specs.State.{World, kind_of}
use Rattle.dalvik_defs.specs.declared.names.FieldKey.{FieldKey}
use Rattle.dalvik_defs.specs.declared.names.MethodKey.{MethodKey}
use Rattle.dalvik_defs.specs.declared.script.Given.{Given}
use Rattle.dalvik_defs.specs.declared.script.Given.TheVariants as given
use Rattle.dalvik_defs.specs.declared.state.Value.{Value}
use Rattle.program_laws.specs.Shutting.{with_shut}

module _ (face : Face) (o : Outer) (silent shut : MethodKey → Bool) where
  abbrev o' : Outer
  o' = with_shut o silent shut

  pub gives_same : (w : World) (g : Given) → may_give face o' w g ≡ may_give face o w g
  gives_same w (given.New kind) = refl
  gives_same w (given.Array item size) = refl
  gives_same w (given.Exposed n) = refl
  gives_same w g = refl

  pub fits_same : (w w' : World) (g : Given) (v : Value) (t : Text) → fits face o' w w' g v t ≡ fits face o w w' g v t
  fits_same w w' g v t = ap (λ b. b && value_fits face w' g v t) (gives_same w g)

  all_same : (w w' : World) (gs : List Given) (vs : List Value) (ts : List Text) → all_fit face o' w w' gs vs ts ≡ all_fit face o w w' gs vs ts
  all_same w w' [] [] [] = refl
  all_same w w' [] [] (t ∷ ts) = refl
  all_same w w' [] (v ∷ vs) ts = refl
  all_same w w' (g ∷ gs) [] ts = refl
  all_same w w' (g ∷ gs) (v ∷ vs) [] = refl
  all_same w w' (g ∷ gs) (v ∷ vs) (t ∷ ts) = ap (λ b. b && all_fit face o' (gets w g).0 w' gs vs ts) (fits_same w w' g v t)
      ∙ ap (λ b. fits face o w w' g v t && b) (all_same (gets w g).0 w' gs vs ts)

  pub throws_same : (w w' : World) (g : Given) (v : Value) → may_throw face o' w w' g v ≡ may_throw face o w w' g v
  throws_same w w' g v = ap (λ b. b && is_on face w' v throwable_type) (fits_same w w' g v throwable_type)

  pub answers_same : (w : World) (t : Text) (g : Option Given) → may_answer face o' w t g ≡ may_answer face o w t g
  answers_same w t None = refl
  answers_same w t (Some g) = fits_same w (gets w g).0 g (gets w g).1 t

  pub on_same : (w w' : World) (k : FieldKey) (place : Place) (g : Option Given) (v : Option Value) → on_fits face o' w w' k place g v ≡ on_fits face o w w' k place g v
  on_same w w' k place None v = refl
  on_same w w' k place (Some g) None = refl
  on_same w w' k place (Some g) (Some v) = ap (λ b. not (is_static place.flags) && b && is_on face w' v k.class) (gives_same w g)

  -- ---- methods

  module _ (f : Found) (alike : is_virtual f.flags f.key.name ≡ true → shut f.key ≡ o.shut f.key) where
    back_same : (class : Text) → calls_back face o' class f ≡ calls_back face o class f
    back_same class = by (is_virtual f.flags f.key.name) refl
      where
        tested : Bool → Bool → Bool
        tested v s = v && not s && is_found f.key (face.virtually class f.key) && (face.outward class || is_common f.key.name f.key.signature)

        by : (v : Bool) → is_virtual f.flags f.key.name ≡ v → tested (is_virtual f.flags f.key.name) (shut f.key) ≡ tested (is_virtual f.flags f.key.name) (o.shut f.key)
        by true e = ap (tested (is_virtual f.flags f.key.name)) (alike e)
        by false e = ap (λ v. tested v (shut f.key)) e ∙ sym (ap (λ v. tested v (o.shut f.key)) e)

    reach_same : (class : Text) → may_reach face o' class f ≡ may_reach face o class f
    reach_same class = ap (λ b. o.methods f.key || answers_kept face o class f || b) (back_same class)

    receiver_same : (w : World) (vs : List Value) → receiver_ok face o' w f vs ≡ receiver_ok face o w f vs
    receiver_same w [] = refl
    receiver_same w (v ∷ vs) = ap (λ b. is_on face w v f.key.class && b) (reach_same (kind_of w v))

    pub enters_same : (w w' : World) (gs : List Given) (vs : List Value) → may_enter face o' w w' f gs vs ≡ may_enter face o w w' f gs vs
    enters_same w w' gs vs = ap (λ b. f.coded && not (is_class_initialiser f) && b) (by (is_static f.flags))
      where
        pick : Bool → Bool → Bool → Bool → Bool
        pick s a b r = elim s as (λ s. Bool) [ true ↦ o.methods f.key && a | false ↦ b && r ]

        by : (s : Bool) → pick s (all_fit face o' w w' gs vs f.key.signature.parameters) (all_fit face o' w w' gs vs (f.key.class ∷ f.key.signature.parameters)) (receiver_ok face o' w' f vs)
            ≡ pick s (all_fit face o w w' gs vs f.key.signature.parameters) (all_fit face o w w' gs vs (f.key.class ∷ f.key.signature.parameters)) (receiver_ok face o w' f vs)
        by true = ap (λ b. o.methods f.key && b) (all_same w w' gs vs f.key.signature.parameters)
        by false = ap (λ b. b && receiver_ok face o' w' f vs) (all_same w w' gs vs (f.key.class ∷ f.key.signature.parameters))
            ∙ ap (λ b. all_fit face o w w' gs vs (f.key.class ∷ f.key.signature.parameters) && b) (receiver_same w' vs)
