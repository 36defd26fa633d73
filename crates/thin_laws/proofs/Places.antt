-- Where positions go, and the forms that are left.
use Rattle.std.proofs.Common.{◌≡◌, ℕ, zero, suc, ◌+◌, Bool, true, false, true≢false, List, [], ◌∷◌, length, refl, sym, ap, ◌∙◌, subst, arith}
use Rattle.std.specs.Prelude.{Option, Some, None, slice_get, nat_lt, nat_le}
use Rattle.lemmas.proofs.Options.{none_some, some_same}
use lib.Dec.{leb-zero, leb-suc-zero, leb-suc-suc}
use Rattle.dalvik_defs.specs.declared.forms.Form.{Form}
use Rattle.dalvik_defs.specs.declared.forms.Form.TheVariants as form
use Rattle.pass_defs.specs.Remade.{retargeted}
use Rattle.pass_defs.specs.Thinned.{Fate, Stays, Empties, Goes, place, forms_left}

abbrev pub IsLeft : Option Fate → Type 0
IsLeft (Some Goes) = ⊥
IsLeft o = Unit {0}

pub place_next : (fs : List Fate) (n : ℕ) → IsLeft (slice_get fs n) → place fs (suc n) ≡ suc (place fs n)
place_next [] n h = refl
place_next (Stays ∷ []) zero h = refl
place_next (Stays ∷ m ∷ fs) zero h = refl
place_next (Empties ∷ []) zero h = refl
place_next (Empties ∷ m ∷ fs) zero h = refl
place_next (Goes ∷ fs) zero h = absurd h
place_next (Stays ∷ fs) (suc n) h = ap suc (place_next fs n h)
place_next (Empties ∷ fs) (suc n) h = ap suc (place_next fs n h)
place_next (Goes ∷ fs) (suc n) h = place_next fs n h

pub place_gone : (fs : List Fate) (n : ℕ) → slice_get fs n ≡ Some Goes → place fs (suc n) ≡ place fs n
place_gone [] n h = none_some Goes h
place_gone (Goes ∷ []) zero h = refl
place_gone (Goes ∷ m ∷ fs) zero h = refl
place_gone (Stays ∷ fs) zero h = absurd (true≢false (ap (λ o. elim o as (λ o. Bool) [ Some m ↦ elim m as (λ m. Bool) [ Goes ↦ false | Stays ↦ true | Empties ↦ true ] | None ↦ true ]) h))
place_gone (Empties ∷ fs) zero h = absurd (true≢false (ap (λ o. elim o as (λ o. Bool) [ Some m ↦ elim m as (λ m. Bool) [ Goes ↦ false | Stays ↦ true | Empties ↦ true ] | None ↦ true ]) h))
place_gone (Stays ∷ fs) (suc n) h = ap suc (place_gone fs n h)
place_gone (Empties ∷ fs) (suc n) h = ap suc (place_gone fs n h)
place_gone (Goes ∷ fs) (suc n) h = place_gone fs n h

-- a position that is left stands behind the same positions as before
pub at_least : (fs : List Fate) (n a : ℕ) → IsLeft (slice_get fs n) → nat_le (place fs a) (place fs n) ≡ nat_le a n
at_least [] n a h = refl
at_least (m ∷ fs) zero zero h = refl
at_least (Stays ∷ fs) zero (suc a) h = leb-suc-zero (place fs a) ∙ sym (leb-suc-zero a)
at_least (Empties ∷ fs) zero (suc a) h = leb-suc-zero (place fs a) ∙ sym (leb-suc-zero a)
at_least (Goes ∷ fs) zero (suc a) h = absurd h
at_least (m ∷ fs) (suc n) zero h = leb-zero (place (m ∷ fs) (suc n)) ∙ sym (leb-zero (suc n))
at_least (Stays ∷ fs) (suc n) (suc a) h = leb-suc-suc (place fs a) (place fs n) ∙ at_least fs n a h ∙ sym (leb-suc-suc a n)
at_least (Empties ∷ fs) (suc n) (suc a) h = leb-suc-suc (place fs a) (place fs n) ∙ at_least fs n a h ∙ sym (leb-suc-suc a n)
at_least (Goes ∷ fs) (suc n) (suc a) h = at_least fs n a h ∙ sym (leb-suc-suc a n)

pub before : (fs : List Fate) (n a : ℕ) → IsLeft (slice_get fs n) → nat_lt (place fs n) (place fs a) ≡ nat_lt n a
before [] n a h = refl
before (m ∷ fs) zero zero h = refl
before (Stays ∷ fs) zero (suc a) h = leb-suc-suc 0 (place fs a) ∙ leb-zero (place fs a) ∙ sym (leb-suc-suc 0 a ∙ leb-zero a)
before (Empties ∷ fs) zero (suc a) h = leb-suc-suc 0 (place fs a) ∙ leb-zero (place fs a) ∙ sym (leb-suc-suc 0 a ∙ leb-zero a)
before (Goes ∷ fs) zero (suc a) h = absurd h
before (m ∷ fs) (suc n) zero h = leb-suc-zero (place (m ∷ fs) (suc n)) ∙ sym (leb-suc-zero (suc n))
before (Stays ∷ fs) (suc n) (suc a) h = leb-suc-suc (suc (place fs n)) (place fs a) ∙ before fs n a h ∙ sym (leb-suc-suc (suc n) a)
before (Empties ∷ fs) (suc n) (suc a) h = leb-suc-suc (suc (place fs n)) (place fs a) ∙ before fs n a h ∙ sym (leb-suc-suc (suc n) a)
before (Goes ∷ fs) (suc n) (suc a) h = before fs n a h ∙ sym (leb-suc-suc (suc n) a)

-- ---- forms

abbrev pub left_as : (ℕ → ℕ) → Fate → Form → Form
left_as at Stays x = retargeted at x
left_as at Empties x = form.Nop
left_as at Goes x = x

pub form_left : (at : ℕ → ℕ) (fs : List Fate) (xs : List Form) (n : ℕ) (m : Fate) (x : Form) → slice_get fs n ≡ Some m → slice_get xs n ≡ Some x → IsLeft (Some m) → slice_get (forms_left at fs xs) (place fs n) ≡ Some (left_as at m x)
form_left at [] xs n m x h e l = none_some m h
form_left at (k ∷ fs) [] n m x h e l = none_some x e
form_left at (Stays ∷ fs) (y ∷ xs) zero m x h e l = ap Some (ap (λ z. retargeted at z) (some_same y x e) ∙ ap (λ k. left_as at k x) (some_same Stays m h))
form_left at (Empties ∷ fs) (y ∷ xs) zero m x h e l = ap (λ k. Some (left_as at k x)) (some_same Empties m h)
form_left at (Goes ∷ fs) (y ∷ xs) zero m x h e l = absurd (subst (λ k. IsLeft (Some k)) (sym (some_same Goes m h)) l)
form_left at (Stays ∷ fs) (y ∷ xs) (suc n) m x h e l = form_left at fs xs n m x h e l
form_left at (Empties ∷ fs) (y ∷ xs) (suc n) m x h e l = form_left at fs xs n m x h e l
form_left at (Goes ∷ fs) (y ∷ xs) (suc n) m x h e l = form_left at fs xs n m x h e l

pub form_past : (at : ℕ → ℕ) (fs : List Fate) (xs : List Form) (n : ℕ) → length fs ≡ length xs → slice_get xs n ≡ None → slice_get (forms_left at fs xs) (place fs n) ≡ None
form_past at fs [] n h e = refl
form_past at [] (y ∷ xs) n h e = refl
form_past at (k ∷ fs) (y ∷ xs) zero h e = none_some y (sym e)
form_past at (Stays ∷ fs) (y ∷ xs) (suc n) h e = form_past at fs xs n (omega (arith, h)) e
form_past at (Empties ∷ fs) (y ∷ xs) (suc n) h e = form_past at fs xs n (omega (arith, h)) e
form_past at (Goes ∷ fs) (y ∷ xs) (suc n) h e = form_past at fs xs n (omega (arith, h)) e

pub fate_known : (fs : List Fate) (xs : List Form) (n : ℕ) (x : Form) → length fs ≡ length xs → slice_get xs n ≡ Some x → (m : Fate) × (slice_get fs n ≡ Some m)
fate_known fs [] n x h e = none_some x e
fate_known [] (y ∷ xs) n x h e = let f : ⊥ = omega (arith, h) in absurd f
fate_known (m ∷ fs) (y ∷ xs) zero x h e = (m, refl)
fate_known (m ∷ fs) (y ∷ xs) (suc n) x h e = fate_known fs xs n x (omega (arith, h)) e
