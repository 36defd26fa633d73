-- What the framework gives, and what it may do: the same for two faces that agree.
use Rattle.std.proofs.Common.{◌≡◌, ℕ, Bool, true, false, List, [], ◌∷◌, refl, sym, ap, ◌∙◌}
use Rattle.std.specs.Prelude.{◌&&◌, ◌||◌, not, Option, Some, None, is_some}
use Rattle.std.specs.List.{list_all}
use Rattle.lemmas.proofs.Bools.{not_true}
use Rattle.dalvik_defs.specs.Names.{Text, is_reference, is_class_type, is_array, is_wide, is_word, base_of, throwable_type}
use Rattle.dalvik_defs.specs.Flags.{is_static, is_interface}
use Rattle.dalvik_defs.specs.Find.{Found}
use Rattle.dalvik_defs.specs.Face.{Face, Place, Bodies, is_plain_class}
use Rattle.dalvik_defs.specs.Outer.{Outer}
use Rattle.dalvik_defs.specs.Shown.{fit_given, fit_option}
use Rattle.dalvik_defs.specs.State.{World, fresh, is_null, kind_of}
use Rattle.dalvik_defs.specs.declared.state.Value.{Value}
use Rattle.dalvik_defs.specs.ActArray.{zeros}
use Rattle.dalvik_defs.specs.Gives.{gets, gets_all, may_give, reference_fits, value_fits, fits, all_fit, is_on, may_throw}
use Rattle.dalvik_defs.specs.Legal.{is_class_initialiser, may_reach, receiver_ok, may_enter_found, may_enter, may_make, may_answer, on_fits}
use Rattle.dalvik_defs.specs.Moves.{got}
use Rattle.dalvik_defs.specs.declared.names.MethodKey.{MethodKey}
use Rattle.dalvik_defs.specs.declared.names.FieldKey.{FieldKey}
use Rattle.dalvik_defs.specs.declared.forms.Form.{Form}
use Rattle.dalvik_defs.specs.declared.script.Given.{Given}
use Rattle.dalvik_defs.specs.declared.script.Given.TheVariants as given
use Rattle.dalvik_defs.specs.declared.program.NamedProgram.{NamedProgram}
use Rattle.removal_law.specs.Agree.{Each, IsBarred, IsOpen, Agree}
use Rattle.removal_law.proofs.Lists.{clash, and_left, and_behind}
use Rattle.removal_law.proofs.Worlds.{Kinds, kinds_append}
use Rattle.removal_law.proofs.Acts.{Sound, kind_ok, kind_made}

-- two tests behind one another
pub and_same : (a d b e : Bool) → a ≡ d → (a ≡ true → b ≡ e) → (a && b) ≡ (d && e)
and_same true d b e i h = h refl ∙ ap (λ x. x && e) i
and_same false d b e i h = ap (λ x. x && e) i

pub and_false : (a b : Bool) → (a ≡ true → b ≡ false) → (a && b) ≡ false
and_false true b h = h refl
and_false false b h = refl

pub if_same : {A : Type 0} (b d : Bool) (x x' y y' : A) → b ≡ d → x ≡ x' → y ≡ y' → (elim b as (λ b. A) [ true ↦ x | false ↦ y ]) ≡ (elim d as (λ b. A) [ true ↦ x' | false ↦ y' ])
if_same {A} true d x x' y y' e h k = h ∙ ap (λ z. elim z as (λ b. A) [ true ↦ x' | false ↦ y' ]) e
if_same {A} false d x x' y y' e h k = k ∙ ap (λ z. elim z as (λ b. A) [ true ↦ x' | false ↦ y' ]) e

module _ (ok made : Text → Type 0) (live : MethodKey → Type 0) (says : MethodKey → Form → Type 0) (stands : MethodKey → ℕ → Type 0) (calm : Text → Bool) (p : NamedProgram) (o : Outer) (F G : Face) (find other : Bodies)
    (agree : Agree ok made live says stands calm p o F G find other) where
  abbrev Fine : World → Type 0
  Fine = Sound ok made live says stands calm p o F G find other agree

  abbrev pub GivenFits : Given → Type 0
  GivenFits g = fit_given p o g ≡ true

  -- ---- worlds with what was given

  pub gets_kinds : (w : World) (g : Given) → GivenFits g → Kinds ok w.heap → Kinds ok (gets w g).0.heap
  gets_kinds w given.Null e h = h
  gets_kinds w (given.Word n) e h = h
  gets_kinds w (given.Wide n) e h = h
  gets_kinds w (given.Exposed n) e h = h
  gets_kinds w (given.New t) e h = kinds_append ok w.heap (fresh t) h (agree.new_fits t e)
  gets_kinds w (given.Array t n) e h = kinds_append ok w.heap (zeros t n) h (agree.array t (agree.array_fits t n e)).0
  gets_kinds w (given.Literal t) e h = h
  gets_kinds w (given.Class t) e h = h

  pub gets_mades : (w : World) (g : Given) → GivenFits g → may_give F o w g ≡ true → Kinds made w.heap → Kinds made (gets w g).0.heap
  gets_mades w given.Null e i h = h
  gets_mades w (given.Word n) e i h = h
  gets_mades w (given.Wide n) e i h = h
  gets_mades w (given.Exposed n) e i h = h
  gets_mades w (given.New t) e i h = kinds_append made w.heap (fresh t) h (agree.new_made t (not_true (is_some (F.flags t)) (and_behind (is_class_type t) (not (is_some (F.flags t))) i)))
  gets_mades w (given.Array t n) e i h = kinds_append made w.heap (zeros t n) h (agree.array t (agree.array_fits t n e)).1
  gets_mades w (given.Literal t) e i h = h
  gets_mades w (given.Class t) e i h = h

  -- ---- what may be given, and what fits

  give_same : (w : World) (g : Given) → GivenFits g → may_give F o w g ≡ may_give G o w g
  give_same w given.Null e = refl
  give_same w (given.Word n) e = refl
  give_same w (given.Wide n) e = refl
  give_same w (given.Exposed n) e = refl
  give_same w (given.New t) e = ap (λ x. is_class_type t && not (is_some x)) (agree.flags t (agree.new_fits t e))
  give_same w (given.Array t n) e = ap (λ x. is_word (base_of t) || is_wide (base_of t) || (is_class_type (base_of t) && (o.classes (base_of t) || not (is_some x))))
      (agree.flags (base_of t) (agree.base t (agree.array_fits t n e)))
  give_same w (given.Literal t) e = refl
  give_same w (given.Class t) e = refl

  pub under_same : (w : World) (v : Value) (t : Text) → Kinds ok w.heap → F.under (kind_of w v) t ≡ G.under (kind_of w v) t
  under_same w v t h = agree.under (kind_of w v) t (kind_ok ok made live says stands calm p o F G find other agree w v h)

  plain_same : (t : Text) → ok t → is_plain_class F t ≡ is_plain_class G t
  plain_same t k = ap (λ x. elim x as (λ x. Bool) [ Some n ↦ not (is_interface n) | None ↦ false ]) (agree.flags t k)

  reference_same : (w : World) (v : Value) (t : Text) → Kinds ok w.heap → ok t → reference_fits F w v t ≡ reference_fits G w v t
  reference_same w v t h k = if_same (is_plain_class F t || is_array t) (is_plain_class G t || is_array t) (F.under (kind_of w v) t) (G.under (kind_of w v) t) (is_reference t) (is_reference t)
      (ap (λ b. b || is_array t) (plain_same t k)) (under_same w v t h) refl

  value_same : (w : World) (g : Given) (v : Value) (t : Text) → Kinds ok w.heap → ok t → value_fits F w g v t ≡ value_fits G w g v t
  value_same w given.Null v t h k = refl
  value_same w (given.Word n) v t h k = refl
  value_same w (given.Wide n) v t h k = refl
  value_same w (given.Exposed n) v t h k = reference_same w v t h k
  value_same w (given.New s) v t h k = reference_same w v t h k
  value_same w (given.Array s n) v t h k = reference_same w v t h k
  value_same w (given.Literal s) v t h k = reference_same w v t h k
  value_same w (given.Class s) v t h k = reference_same w v t h k

  pub fits_same : (w u : World) (g : Given) (v : Value) (t : Text) → GivenFits g → Kinds ok u.heap → ok t → fits F o w u g v t ≡ fits G o w u g v t
  fits_same w u g v t e h k = and_same (may_give F o w g) (may_give G o w g) (value_fits F u g v t) (value_fits G u g v t) (give_same w g e) (λ i. value_same u g v t h k)

  abbrev pub AllFit : List Given → Type 0
  AllFit gs = list_all (fit_given p o) gs ≡ true

  head_fits : (g : Given) (gs : List Given) → AllFit (g ∷ gs) → GivenFits g
  head_fits g gs e = and_left (fit_given p o g) (list_all (fit_given p o) gs) e

  rest_fits : (g : Given) (gs : List Given) → AllFit (g ∷ gs) → AllFit gs
  rest_fits g gs e = and_behind (fit_given p o g) (list_all (fit_given p o) gs) e

  all_same : (w u : World) (gs : List Given) (vs : List Value) (ts : List Text) → AllFit gs → Kinds ok u.heap → Each ok ts → all_fit F o w u gs vs ts ≡ all_fit G o w u gs vs ts
  all_same w u [] [] [] e h k = refl
  all_same w u [] [] (t ∷ ts) e h k = refl
  all_same w u [] (v ∷ vs) [] e h k = refl
  all_same w u [] (v ∷ vs) (t ∷ ts) e h k = refl
  all_same w u (g ∷ gs) [] [] e h k = refl
  all_same w u (g ∷ gs) [] (t ∷ ts) e h k = refl
  all_same w u (g ∷ gs) (v ∷ vs) [] e h k = refl
  all_same w u (g ∷ gs) (v ∷ vs) (t ∷ ts) e h k = and_same (fits F o w u g v t) (fits G o w u g v t) (all_fit F o (gets w g).0 u gs vs ts) (all_fit G o (gets w g).0 u gs vs ts)
      (fits_same w u g v t (head_fits g gs e) h k.0) (λ i. all_same (gets w g).0 u gs vs ts (rest_fits g gs e) h k.1)

  pub all_kinds : (w : World) (gs : List Given) → AllFit gs → Kinds ok w.heap → Kinds ok (gets_all w gs).0.heap
  all_kinds w [] e h = h
  all_kinds w (g ∷ gs) e h = all_kinds (gets w g).0 gs (rest_fits g gs e) (gets_kinds w g (head_fits g gs e) h)

  all_mades : (w u : World) (gs : List Given) (vs : List Value) (ts : List Text) → AllFit gs → all_fit F o w u gs vs ts ≡ true → Kinds made w.heap → Kinds made (gets_all w gs).0.heap
  all_mades w u [] vs ts e i h = h
  all_mades w u (g ∷ gs) [] [] e i h = clash false i refl
  all_mades w u (g ∷ gs) [] (t ∷ ts) e i h = clash false i refl
  all_mades w u (g ∷ gs) (v ∷ vs) [] e i h = clash false i refl
  all_mades w u (g ∷ gs) (v ∷ vs) (t ∷ ts) e i h =
      let a : fits F o w u g v t ≡ true = and_left (fits F o w u g v t) (all_fit F o (gets w g).0 u gs vs ts) i in
      let b : all_fit F o (gets w g).0 u gs vs ts ≡ true = and_behind (fits F o w u g v t) (all_fit F o (gets w g).0 u gs vs ts) i in
      all_mades (gets w g).0 u gs vs ts (rest_fits g gs e) b (gets_mades w g (head_fits g gs e) (and_left (may_give F o w g) (value_fits F u g v t) a) h)

  -- ---- entering

  pub on_same : (w : World) (v : Value) (t : Text) → Kinds ok w.heap → is_on F w v t ≡ is_on G w v t
  on_same w v t h = ap (λ b. not (is_null v) && b) (under_same w v t h)

  receiver_same : (w : World) (f : Found) (vs : List Value) → IsOpen ok made live o F G f → f.coded ≡ true → Fine w → receiver_ok F o w f vs ≡ receiver_ok G o w f vs
  receiver_same w f [] l e h = refl
  receiver_same w f (v ∷ vs) l e h = and_same (is_on F w v f.key.class) (is_on G w v f.key.class) (may_reach F o (kind_of w v) f) (may_reach G o (kind_of w v) f)
      (on_same w v f.key.class h.kinds)
      (λ i. l.called (kind_of w v) e (kind_ok ok made live says stands calm p o F G find other agree w v h.kinds) (kind_made ok made live says stands calm p o F G find other agree w v h.mades))

  module _ (w : World) (h : Fine w) (f : Found) (gs : List Given) (e : AllFit gs) where
    abbrev u : World
    u = (gets_all w gs).0

    abbrev vs : List Value
    vs = (gets_all w gs).1

    fine_if : (ts : List Text) → all_fit F o w u gs vs ts ≡ true → Fine u
    fine_if ts i = record { kinds = all_kinds w gs e h.kinds; mades = all_mades w u gs vs ts e i h.mades }

    found_same : IsOpen ok made live o F G f → f.coded ≡ true → may_enter_found F o w u f gs vs ≡ may_enter_found G o w u f gs vs
    found_same l i = if_same (is_static f.flags) (is_static f.flags)
        (o.methods f.key && all_fit F o w u gs vs f.key.signature.parameters) (o.methods f.key && all_fit G o w u gs vs f.key.signature.parameters)
        (all_fit F o w u gs vs (f.key.class ∷ f.key.signature.parameters) && receiver_ok F o u f vs) (all_fit G o w u gs vs (f.key.class ∷ f.key.signature.parameters) && receiver_ok G o u f vs)
        refl
        (ap (λ b. o.methods f.key && b) (all_same w u gs vs f.key.signature.parameters e (all_kinds w gs e h.kinds) (agree.parameters_ok f.key l.lives)))
        (and_same (all_fit F o w u gs vs (f.key.class ∷ f.key.signature.parameters)) (all_fit G o w u gs vs (f.key.class ∷ f.key.signature.parameters)) (receiver_ok F o u f vs) (receiver_ok G o u f vs)
        (all_same w u gs vs (f.key.class ∷ f.key.signature.parameters) e (all_kinds w gs e h.kinds) (agree.class_ok f.key l.lives, agree.parameters_ok f.key l.lives))
        (λ j. receiver_same u f vs l i (fine_if (f.key.class ∷ f.key.signature.parameters) j)))

    pub enter_same : IsOpen ok made live o F G f → may_enter F o w u f gs vs ≡ may_enter G o w u f gs vs
    enter_same l = and_same (f.coded && not (is_class_initialiser f)) (f.coded && not (is_class_initialiser f)) (may_enter_found F o w u f gs vs) (may_enter_found G o w u f gs vs)
        refl (λ i. found_same l (and_left f.coded (not (is_class_initialiser f)) i))

    fine_found : (b : Bool)
        → (elim b as (λ b. Bool) [ true ↦ o.methods f.key && all_fit F o w u gs vs f.key.signature.parameters | false ↦ all_fit F o w u gs vs (f.key.class ∷ f.key.signature.parameters) && receiver_ok F o u f vs ]) ≡ true → Fine u
    fine_found true i = fine_if f.key.signature.parameters (and_behind (o.methods f.key) (all_fit F o w u gs vs f.key.signature.parameters) i)
    fine_found false i = fine_if (f.key.class ∷ f.key.signature.parameters) (and_left (all_fit F o w u gs vs (f.key.class ∷ f.key.signature.parameters)) (receiver_ok F o u f vs) i)

    -- what may be entered leaves things of known kinds
    pub enter_fine : may_enter F o w u f gs vs ≡ true → Fine u
    enter_fine i = fine_found (is_static f.flags)
        (and_behind (f.coded && not (is_class_initialiser f)) (may_enter_found F o w u f gs vs) i)

    module _ (bar : IsBarred ok made live o F f) where
      receiver_barred : (us : List Value) → Fine u → receiver_ok F o u f us ≡ false
      receiver_barred [] k = refl
      receiver_barred (v ∷ us) k = and_false (is_on F u v f.key.class) (may_reach F o (kind_of u v) f) (λ i.
          bar.called (kind_of u v) (kind_ok ok made live says stands calm p o F G find other agree u v k.kinds) (kind_made ok made live says stands calm p o F G find other agree u v k.mades))

      found_barred : (b : Bool)
          → (elim b as (λ b. Bool) [ true ↦ o.methods f.key && all_fit F o w u gs vs f.key.signature.parameters | false ↦ all_fit F o w u gs vs (f.key.class ∷ f.key.signature.parameters) && receiver_ok F o u f vs ]) ≡ false
      found_barred true = ap (λ b. b && all_fit F o w u gs vs f.key.signature.parameters) bar.kept
      found_barred false = and_false (all_fit F o w u gs vs (f.key.class ∷ f.key.signature.parameters)) (receiver_ok F o u f vs)
          (λ i. receiver_barred vs (fine_if (f.key.class ∷ f.key.signature.parameters) i))

      pub enter_barred : may_enter F o w u f gs vs ≡ false
      enter_barred = and_false (f.coded && not (is_class_initialiser f)) (may_enter_found F o w u f gs vs) (λ i. found_barred (is_static f.flags))

  -- ---- making, answering, throwing, and receivers of fields

  pub make_same : (t : Text) → may_make F o t ≡ may_make G o t
  make_same t = and_same (o.classes t || o.constructed t) (o.classes t || o.constructed t) _ _ refl (λ i. agree.makes t i)

  abbrev pub OptionFits : Option Given → Type 0
  OptionFits g = fit_option p o g ≡ true

  pub got_kinds : (w : World) (g : Option Given) → OptionFits g → Kinds ok w.heap → Kinds ok (got w g).0.heap
  got_kinds w None e h = h
  got_kinds w (Some g) e h = gets_kinds w g e h

  pub given_fine : (w u : World) (g : Given) (v : Value) (t : Text) → GivenFits g → Fine w → fits F o w u g v t ≡ true → Fine (gets w g).0
  given_fine w u g v t e h i = record { kinds = gets_kinds w g e h.kinds; mades = gets_mades w g e (and_left (may_give F o w g) (value_fits F u g v t) i) h.mades }

  pub answer_same : (w : World) (t : Text) (g : Option Given) → OptionFits g → Fine w → ok t → may_answer F o w t g ≡ may_answer G o w t g
  answer_same w t None e h k = refl
  answer_same w t (Some g) e h k = fits_same w (gets w g).0 g (gets w g).1 t e (gets_kinds w g e h.kinds) k

  pub answer_fine : (w : World) (t : Text) (g : Option Given) → OptionFits g → Fine w → may_answer F o w t g ≡ true → Fine (got w g).0
  answer_fine w t None e h i = h
  answer_fine w t (Some g) e h i = given_fine w (gets w g).0 g (gets w g).1 t e h i

  pub throw_same : (w : World) (g : Given) → GivenFits g → Fine w → may_throw F o w (gets w g).0 g (gets w g).1 ≡ may_throw G o w (gets w g).0 g (gets w g).1
  throw_same w g e h = and_same (fits F o w (gets w g).0 g (gets w g).1 throwable_type) (fits G o w (gets w g).0 g (gets w g).1 throwable_type)
      (is_on F (gets w g).0 (gets w g).1 throwable_type) (is_on G (gets w g).0 (gets w g).1 throwable_type)
      (fits_same w (gets w g).0 g (gets w g).1 throwable_type e (gets_kinds w g e h.kinds) (agree.known throwable_type refl).0)
      (λ i. on_same (gets w g).0 (gets w g).1 throwable_type (gets_kinds w g e h.kinds))

  pub throw_fine : (w : World) (g : Given) → GivenFits g → Fine w → may_throw F o w (gets w g).0 g (gets w g).1 ≡ true → Fine (gets w g).0
  throw_fine w g e h i = given_fine w (gets w g).0 g (gets w g).1 throwable_type e h
      (and_left (fits F o w (gets w g).0 g (gets w g).1 throwable_type) (is_on F (gets w g).0 (gets w g).1 throwable_type) i)

  pub on_place_same : (w u : World) (k : FieldKey) (x : Place) (g : Option Given) (v : Option Value) → OptionFits g → Kinds ok u.heap → on_fits F o w u k x g v ≡ on_fits G o w u k x g v
  on_place_same w u k x None v e h = refl
  on_place_same w u k x (Some g) None e h = refl
  on_place_same w u k x (Some g) (Some v) e h = and_same (not (is_static x.flags) && may_give F o w g) (not (is_static x.flags) && may_give G o w g) (is_on F u v k.class) (is_on G u v k.class)
      (ap (λ b. not (is_static x.flags) && b) (give_same w g e)) (λ i. on_same u v k.class h)

  pub on_place_fine : (w u : World) (k : FieldKey) (x : Place) (g : Option Given) (v : Option Value) → OptionFits g → Fine w → on_fits F o w u k x g v ≡ true → Fine (got w g).0
  on_place_fine w u k x None v e h i = h
  on_place_fine w u k x (Some g) None e h i = clash false i refl
  on_place_fine w u k x (Some g) (Some v) e h i = record {
    kinds = gets_kinds w g e h.kinds;
    mades = gets_mades w g e (and_behind (not (is_static x.flags)) (may_give F o w g) (and_left (not (is_static x.flags) && may_give F o w g) (is_on F u v k.class) i)) h.mades;
  }
