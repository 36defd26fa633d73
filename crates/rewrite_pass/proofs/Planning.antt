-- Plans that grow from item to item.
use Rattle.std.proofs.Common.{◌≡◌, ℕ, ◌+◌, ◌<◌, ◌≤◌, List, [], ◌∷◌, ◌++◌, length, get_or, refl, sym, ap, ◌∙◌, subst, arith, ◌⊎◌, inl, inr, Some}
use Rattle.std.specs.Prelude.{slice_get}
use Rattle.std.proofs.lemmas.Bool.{cases_eq}
use Rattle.std.proofs.lemmas.List.{length_push, get_or_append_left}
use Rattle.std.proofs.Math.Seq.{get_or-append_seam}
use Rattle.std.proofs.lemmas.Option.{get_or_from_slice_get}
use Rattle.rewrite_pass.specs.Plans.{ArePlanned}

pub none_planned : {A E : Type 0} (P : ℕ → A → List E → Type 0) (xs : List A) (plan : List (List E)) → plan ≡ [] → ArePlanned P 0 xs plan
none_planned P xs plan e = record { long = ap length e; each = λ k x lt h. absurd (omega arith) }

-- one item more
module _ {A E : Type 0} (P : ℕ → A → List E → Type 0) (xs : List A) (plan next : List (List E)) (i : ℕ) (x : A) (es : List E) (was : ArePlanned P i xs plan) (is : P i (get_or xs i x) es) (e : next ≡ plan ++ es ∷ []) where
  here : get_or (plan ++ es ∷ []) i [] ≡ es
  here = ap (λ k. get_or (plan ++ es ∷ []) k []) (sym was.long) ∙ get_or-append_seam plan es [] []

  pub one_planned : ArePlanned P (i + 1) xs next
  one_planned = record {
    long = ap length e ∙ length_push plan es ∙ ap (λ n. n + 1) was.long;
    each = λ k y lt h. subst (λ l. P k y (get_or l k [])) (sym e) (at k y lt h (cases_eq k i));
  }
    where
      at : (k : ℕ) (y : A) → k < i + 1 → slice_get xs k ≡ Some y → (k ≡ i) ⊎ (k ≡ i → ⊥) → P k y (get_or (plan ++ es ∷ []) k [])
      at k y lt h (inl s) =
          let v : get_or xs i x ≡ y = get_or_from_slice_get xs i y x (ap (slice_get xs) (sym s) ∙ h) in
          subst (λ j. P j y (get_or (plan ++ es ∷ []) j [])) (sym s) (subst (λ z. P i z (get_or (plan ++ es ∷ []) i [])) v (subst (P i (get_or xs i x)) (sym here) is))
      at k y lt h (inr ne) =
          let below : k < length plan = omega (arith, was.long) in
          subst (P k y) (sym (get_or_append_left plan (es ∷ []) [] k below)) (was.each k y (omega arith) h)

pub all_planned : {A E : Type 0} (P : ℕ → A → List E → Type 0) (xs : List A) (plan given : List (List E)) (i : ℕ) → length xs ≡ i → given ≡ plan → ArePlanned P i xs plan → ArePlanned P (length xs) xs given
all_planned P xs plan given i e f h = subst (λ n. ArePlanned P n xs given) (sym e) (subst (ArePlanned P i xs) (sym f) h)
