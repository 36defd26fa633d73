-- Tests over the front of a list.
use Rattle.std.proofs.Common.{◌≡◌, ℕ, zero, suc, ◌+◌, ◌-◌, ◌<◌, ◌≤◌, Bool, true, false, List, [], ◌∷◌, ◌++◌, drop, length, slice_index, take, take_all, Some, refl, sym, ap, ◌∙◌, arith}
use Rattle.std.specs.Prelude.{◌&&◌, slice_get}
use Rattle.std.specs.List.{list_all, list_any}
use Rattle.std.proofs.lemmas.List.{take_more}
use Rattle.lemmas.proofs.Bools.{clash, none_or, or_false_left, or_false_right, untrue}
use Rattle.lemmas.proofs.Lists.{all_append, all_at, any_at}

pub at_index : (xs : List ℕ) (i : ℕ) → i < length xs → slice_get xs i ≡ Some (slice_index xs i)
at_index [] i l = absurd (omega (arith, l))
at_index (x ∷ xs) zero l = refl
at_index (x ∷ xs) (suc i) l = at_index xs i (omega (arith, l))

module _ (t : ℕ → Bool) where
  none_snoc : (xs : List ℕ) (y : ℕ) → list_any t xs ≡ false → t y ≡ false → list_any t (xs ++ y ∷ []) ≡ false
  none_snoc [] y e f = none_or (t y) false f refl
  none_snoc (x ∷ xs) y e f = none_or (t x) (list_any t (xs ++ y ∷ [])) (or_false_left (t x) (list_any t xs) e) (none_snoc xs y (or_false_right (t x) (list_any t xs) e) f)

  pub none_more : (xs : List ℕ) (i : ℕ) → i < length xs → list_any t (take i xs) ≡ false → t (slice_index xs i) ≡ false → list_any t (take (i + 1) xs) ≡ false
  none_more xs i l e f = ap (list_any t) (take_more xs i 0 l) ∙ none_snoc (take i xs) (slice_index xs i) e f

  pub none_done : (xs : List ℕ) (i : ℕ) → length xs ≤ i → list_any t (take i xs) ≡ false → list_any t xs ≡ false
  none_done xs i l e = ap (list_any t) (sym (take_all i xs l)) ∙ e

  pub any_here : (xs : List ℕ) (i : ℕ) → i < length xs → t (slice_index xs i) ≡ true → list_any t xs ≡ true
  any_here xs i l e = any_at t xs i (slice_index xs i) (at_index xs i l) e

  pub all_more : (xs : List ℕ) (i : ℕ) → i < length xs → list_all t (take i xs) ≡ true → t (slice_index xs i) ≡ true → list_all t (take (i + 1) xs) ≡ true
  all_more xs i l e f = ap (list_all t) (take_more xs i 0 l) ∙ all_append t (take i xs) (slice_index xs i ∷ []) e (one (t (slice_index xs i)) f)
    where
      one : (b : Bool) → b ≡ true → (b && true) ≡ true
      one true f = refl
      one false f = f

  pub all_done : (xs : List ℕ) (i : ℕ) → length xs ≤ i → list_all t (take i xs) ≡ true → list_all t xs ≡ true
  all_done xs i l e = ap (list_all t) (sym (take_all i xs l)) ∙ e

  pub all_broken : (xs : List ℕ) (i : ℕ) → i < length xs → t (slice_index xs i) ≡ false → list_all t xs ≡ false
  all_broken xs i l e = untrue (list_all t xs) (λ h. clash (t (slice_index xs i)) (all_at t xs i (slice_index xs i) h (at_index xs i l)) e)

-- the first item and the rest
pub head_tail : (xs : List ℕ) → 1 ≤ length xs → slice_index xs 0 ∷ drop 1 xs ≡ xs
head_tail [] l = absurd (omega (arith, l))
head_tail (x ∷ xs) l = refl

pub in_tail : (xs : List ℕ) (k x : ℕ) → slice_get (drop 1 xs) k ≡ Some x → slice_get xs (suc k) ≡ Some x
in_tail [] k x e = cc
in_tail (y ∷ xs) k x e = e

pub rest_is : (xs : List ℕ) → take (length xs - 1) (drop 1 xs) ≡ drop 1 xs
rest_is [] = refl
rest_is (x ∷ xs) = take_all (suc (length xs) - 1) xs (omega arith)
