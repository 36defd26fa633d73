-- What is left of an ascending list ascends.
use Rattle.std.proofs.Common.{◌≡◌, ℕ, zero, suc, ◌+◌, ◌<◌, ◌≤◌, List, [], ◌∷◌, ◌++◌, length, take, drop, get_or, Bool, ◌⊎◌, inl, inr, length-append, refl, sym, ap, subst, ◌∙◌, arith}
use Rattle.std.proofs.lemmas.List.{drop_more, take_more}
use Rattle.std.proofs.lemmas.List.Elements.{filter-append}
use Rattle.std.specs.Prelude.{filter}
use Rattle.domains.specs.ClassSets.{Ascends}

weaker : (n m : ℕ) (xs : List ℕ) → n ≤ m → Ascends m xs → Ascends n xs
weaker n m [] l h = tt
weaker n m (x ∷ xs) l h = (omega (arith, l, h.0), h.1)

without_one : (n : ℕ) (ks : List ℕ) (x : ℕ) (ds : List ℕ) → Ascends n (ks ++ x ∷ ds) → Ascends n (ks ++ ds)
without_one n [] x ds h = weaker n (suc x) ds (omega (arith, h.0)) h.1
without_one n (k ∷ ks) x ds h = (h.0, without_one (suc k) ks x ds h.1)

together : (ks : List ℕ) (x : ℕ) (ds : List ℕ) → (ks ++ x ∷ []) ++ ds ≡ ks ++ x ∷ ds
together [] x ds = refl
together (k ∷ ks) x ds = ap (λ l. k ∷ l) (together ks x ds)

-- a class that is kept, and one that isn't
pub taken : (ks cs : List ℕ) (i d : ℕ) → i < length cs → Ascends 0 (ks ++ drop i cs) → Ascends 0 ((ks ++ get_or cs i d ∷ []) ++ drop (i + 1) cs)
taken ks cs i d l h = subst (Ascends 0) (ap (λ r. ks ++ r) (drop_more cs i d l) ∙ sym (together ks (get_or cs i d) (drop (i + 1) cs))) h

pub passed : (ks cs : List ℕ) (i d : ℕ) → i < length cs → Ascends 0 (ks ++ drop i cs) → Ascends 0 (ks ++ drop (i + 1) cs)
passed ks cs i d l h = without_one 0 ks (get_or cs i d) (drop (i + 1) cs) (subst (Ascends 0) (ap (λ r. ks ++ r) (drop_more cs i d l)) h)

none_left : (cs : List ℕ) (i : ℕ) → length cs ≤ i → drop i cs ≡ []
none_left [] zero l = refl
none_left [] (suc i) l = refl
none_left (c ∷ cs) zero l = absurd (omega (arith, l))
none_left (c ∷ cs) (suc i) l = none_left cs i (omega (arith, l))

-- all that was kept, where none are left
pub ended : (ks cs : List ℕ) (i : ℕ) → length cs ≤ i → Ascends 0 (ks ++ drop i cs) → Ascends 0 ks
ended ks cs i l h = subst (Ascends 0) (ap (λ r. ks ++ r) (none_left cs i l) ∙ whole ks) h
  where
    whole : (ks : List ℕ) → ks ++ [] ≡ ks
    whole [] = refl
    whole (k ∷ ks) = ap (λ l. k ∷ l) (whole ks)

-- ---- one class more, kept or not

module _ (ks ks' cs : List ℕ) (i d : ℕ) (l : i < length cs) where
  pub kept_ascending : (ks' ≡ ks ++ get_or cs i d ∷ []) ⊎ (ks' ≡ ks) → Ascends 0 (ks ++ drop i cs) → Ascends 0 (ks' ++ drop (i + 1) cs)
  kept_ascending (inl e) h = subst (λ k. Ascends 0 (k ++ drop (i + 1) cs)) (sym e) (taken ks cs i d l h)
  kept_ascending (inr e) h = subst (λ k. Ascends 0 (k ++ drop (i + 1) cs)) (sym e) (passed ks cs i d l h)

  pub kept_room : (ks' ≡ ks ++ get_or cs i d ∷ []) ⊎ (ks' ≡ ks) → length ks ≤ i → length ks' ≤ i + 1
  kept_room (inl e) h = subst (λ k. length k ≤ i + 1) (sym e) (subst (λ n. n ≤ i + 1) (sym (length-append ks (get_or cs i d ∷ []))) (omega (arith, h)))
  kept_room (inr e) h = subst (λ k. length k ≤ i + 1) (sym e) (omega (arith, h))

  pub kept_filtered : (q : ℕ → Bool) → ks' ≡ ks ++ filter q (get_or cs i d ∷ []) → ks ≡ filter q (take i cs) → ks' ≡ filter q (take (i + 1) cs)
  kept_filtered q e h = e ∙ ap (λ k. k ++ filter q (get_or cs i d ∷ [])) h ∙ sym (ap (filter q) (take_more cs i d l) ∙ filter-append q (take i cs) (get_or cs i d ∷ []))
