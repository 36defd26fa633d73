-- Values that fit the types of a call, one behind another.
use Rattle.std.proofs.Common.{◌≡◌, ℕ, zero, suc, ◌+◌, ◌<◌, ◌≤◌, Bool, true, false, List, [], ◌∷◌, length, map, drop, arith, ap, refl, sym, subst, ◌∙◌}
use Rattle.std.specs.Prelude.{Some, ◌&&◌, slice_get}
use Rattle.program_model.specs.declared.pass.Outside.{Outside}
use Rattle.dalvik_defs.specs.Gives.{all_fit, fits, gets}
use Rattle.dalvik_defs.specs.Outer.{outer_of}
use Rattle.dalvik_defs.specs.State.{World}
use Rattle.dalvik_defs.specs.declared.script.Given.{Given}
use Rattle.dalvik_defs.specs.declared.state.Value.{Value}
use Rattle.dalvik_lookups.specs.declared.lookups.Lookups.{Lookups}
use Rattle.dalvik_lookups.specs.declared.plays.Gift.{Gift}
use Rattle.dalvik_lookups.specs.declared.types.Kind.{Kind}
use Rattle.dalvik_lookups.specs.Facing.{run_face}
use Rattle.dalvik_lookups.specs.Views.{type_text}
use Rattle.dalvik_state.specs.declared.gifts.Gifts.{Gifts}
use Rattle.dalvik_state.specs.declared.gifts.Taken.{Taken}
use Rattle.dalvik_state.specs.declared.world.World.{World as OwnWorld}
use Rattle.dalvik_state.specs.Drafts.{given_world}
use Rattle.dalvik_state.specs.Giving.{AreTakenFrom, IsTakenFrom}
use Rattle.dalvik_state.specs.Views.{names_in, value_of}

module _ (l : Lookups) (o : Outside) (w : OwnWorld) (all : Gifts) where
  abbrev pub with_all : World
  with_all = given_world (names_in l) w all

  abbrev pub value_in : Gift × Taken → Value
  value_in t = value_of (names_in l) t.1.datum

  -- whether the values fit from here on
  abbrev pub fit_from : World → List Given → List (Gift × Taken) → List Kind → Bool
  fit_from before gs vs ks = all_fit (run_face l) (outer_of l.program.now o) before with_all gs (map value_in vs) (map (type_text l.types) ks)

  abbrev pub one_fits : World → Given → Gift × Taken → Kind → Bool
  one_fits before g v k = fits (run_face l) (outer_of l.program.now o) before with_all g (value_in v) (type_text l.types k)

  -- the values that are left were taken from some world on, and all fit exactly where these do
  pub record IsLeftToFit (whole : Bool) (vs : List (Gift × Taken)) (ks : List Kind) : Type 0 where
    pub before : World
    pub given : List Given
    pub taken : AreTakenFrom l o w before all given vs
    pub same : whole ≡ fit_from before given vs ks

  -- the first of them
  pub record IsFirstToFit (whole : Bool) (v : Gift × Taken) (vs : List (Gift × Taken)) (k : Kind) (ks : List Kind) : Type 0 where
    pub before : World
    pub what : Given
    pub given : List Given
    pub one : IsTakenFrom l o w before all what v
    pub taken : AreTakenFrom l o w (gets before what).0 all given vs
    pub same : whole ≡ (one_fits before what v k && fit_from (gets before what).0 given vs ks)

  pub first_left : (whole : Bool) (v : Gift × Taken) (vs : List (Gift × Taken)) (k : Kind) (ks : List Kind) → IsLeftToFit whole (v ∷ vs) (k ∷ ks) → IsFirstToFit whole v vs k ks
  first_left whole v vs k ks h = by h.given h.taken h.same
    where
      by : (gs : List Given) → AreTakenFrom l o w h.before all gs (v ∷ vs) → whole ≡ fit_from h.before gs (v ∷ vs) (k ∷ ks) → IsFirstToFit whole v vs k ks
      by [] t e = absurd t
      by (g ∷ gs) t e = record { before = h.before; what = g; given = gs; one = t.0; taken = t.1; same = e }

  pub fit_on : (whole : Bool) (v : Gift × Taken) (vs : List (Gift × Taken)) (k : Kind) (ks : List Kind) → (h : IsFirstToFit whole v vs k ks) → true ≡ one_fits h.before h.what v k → IsLeftToFit whole vs ks
  fit_on whole v vs k ks h e = record {
    before = (gets h.before h.what).0;
    given = h.given;
    taken = h.taken;
    same = h.same ∙ ap (λ (b : Bool). b && fit_from (gets h.before h.what).0 h.given vs ks) (sym e);
  }

  pub fit_no : (whole : Bool) (v : Gift × Taken) (vs : List (Gift × Taken)) (k : Kind) (ks : List Kind) → (h : IsFirstToFit whole v vs k ks) → false ≡ one_fits h.before h.what v k → false ≡ whole
  fit_no whole v vs k ks h e = sym (h.same ∙ ap (λ (b : Bool). b && fit_from (gets h.before h.what).0 h.given vs ks) (sym e))

  pub fit_begins : (before : World) (gs : List Given) (vs : List (Gift × Taken)) (ks : List Kind) → AreTakenFrom l o w before all gs vs → IsLeftToFit (fit_from before gs vs ks) vs ks
  fit_begins before gs vs ks t = record { before = before; given = gs; taken = t; same = refl }

  pub fit_ends : (whole : Bool) → IsLeftToFit whole [] [] → true ≡ whole
  fit_ends whole h = by h.given h.taken h.same
    where
      by : (gs : List Given) → AreTakenFrom l o w h.before all gs [] → whole ≡ fit_from h.before gs [] [] → true ≡ whole
      by [] t e = sym e
      by (g ∷ gs) t e = absurd t

  -- no value is left over, and no type
  pub fit_unlike : (before : World) (gs : List Given) (vs : List (Gift × Taken)) (ks : List Kind) → AreTakenFrom l o w before all gs vs → (length vs ≡ length ks → ⊥) → false ≡ fit_from before gs vs ks
  fit_unlike before [] [] [] t f = absurd (f refl)
  fit_unlike before [] [] (k ∷ ks) t f = refl
  fit_unlike before [] (v ∷ vs) ks t f = absurd t
  fit_unlike before (g ∷ gs) [] ks t f = absurd t
  fit_unlike before (g ∷ gs) (v ∷ vs) [] t f = refl
  fit_unlike before (g ∷ gs) (v ∷ vs) (k ∷ ks) t f =
      sym (ap (λ (b : Bool). one_fits before g v k && b) (sym (fit_unlike (gets before g).0 gs vs ks t.1 (λ e. f (ap suc e)))) ∙ nothing (one_fits before g v k))
    where
      nothing : (b : Bool) → (b && false) ≡ false
      nothing true = refl
      nothing false = refl

-- what stands at a place begins what is left there
pub left_from : {X : Type 0} (xs : List X) (i : ℕ) (x : X) → slice_get xs i ≡ Some x → drop i xs ≡ x ∷ drop (i + 1) xs
left_from {X = X} xs i x e = at xs i e ∙ (let one : suc i ≡ i + 1 = omega arith in ap (λ (k : ℕ). x ∷ drop k xs) one)
  where
    at : (ys : List X) (k : ℕ) → slice_get ys k ≡ Some x → drop k ys ≡ x ∷ drop (suc k) ys
    at [] k f = absurd (cc)
    at (y ∷ ys) zero f = let same : y ≡ x = cc in ap (λ (z : X). z ∷ ys) same
    at (y ∷ ys) (suc k) f = at ys k f

pub none_left : {X : Type 0} (xs : List X) (i : ℕ) → length xs ≤ i → drop i xs ≡ []
none_left [] zero h = refl
none_left [] (suc i) h = refl
none_left (x ∷ xs) zero h = absurd (omega (arith, h))
none_left (x ∷ xs) (suc i) h = none_left xs i (omega (arith, h))

pub there_at : {X : Type 0} (xs : List X) (i : ℕ) → i < length xs → (x : X) × (slice_get xs i ≡ Some x)
there_at [] i h = absurd (omega (arith, h))
there_at (x ∷ xs) zero h = (x, refl)
there_at (x ∷ xs) (suc i) h = there_at xs i (omega (arith, h))

module _ (l : Lookups) (o : Outside) (w : OwnWorld) (all : Gifts) (whole : Bool) (vs : List (Gift × Taken)) (ks : List Kind) (i : ℕ) where
  -- what stands at a place is the first that is left
  pub record IsHereToFit : Type 0 where
    pub value : Gift × Taken
    pub there : slice_get vs i ≡ Some value
    pub kind : Kind
    pub typed : slice_get ks i ≡ Some kind
    pub first : IsFirstToFit l o w all whole value (drop (i + 1) vs) kind (drop (i + 1) ks)

  pub here : i < length vs → length vs ≡ length ks → IsLeftToFit l o w all whole (drop i vs) (drop i ks) → IsHereToFit
  here low long h =
      let v = there_at vs i low in
      let k = there_at ks i (omega (arith, low, long)) in
      record {
        value = v.0;
        there = v.1;
        kind = k.0;
        typed = k.1;
        first = first_left l o w all whole v.0 (drop (i + 1) vs) k.0 (drop (i + 1) ks)
            (subst (λ (xs : List (Gift × Taken)). IsLeftToFit l o w all whole xs (k.0 ∷ drop (i + 1) ks)) (left_from vs i v.0 v.1)
            (subst (λ (xs : List Kind). IsLeftToFit l o w all whole (drop i vs) xs) (left_from ks i k.0 k.1) h));
      }

  pub nothing_left : length vs ≤ i → length vs ≡ length ks → IsLeftToFit l o w all whole (drop i vs) (drop i ks) → true ≡ whole
  nothing_left high long h =
      fit_ends l o w all whole
      (subst (λ (xs : List (Gift × Taken)). IsLeftToFit l o w all whole xs []) (none_left vs i high)
      (subst (λ (xs : List Kind). IsLeftToFit l o w all whole (drop i vs) xs) (none_left ks i (omega (arith, high, long))) h))
