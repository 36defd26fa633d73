-- How many fates there are, and which one stands at a position.
use Rattle.std.proofs.Common.{◌≡◌, ◌⊎◌, inl, inr, ℕ, zero, suc, ◌+◌, ◌-◌, ◌<◌, ◌≤◌, Bool, true, false, true≢false, if◌then◌else◌, List, [], ◌∷◌, ◌++◌, length, Some, slice_get, refl, sym, ap, ◌∙◌, subst, arith}
use Rattle.std.proofs.lemmas.Bool.{cases_lt}
use Rattle.std.proofs.lemmas.List.{append-nil, append_assoc}
use Rattle.insn_set.specs.declared.form.Insn.{Insn}
use Rattle.body_edit.specs.declared.fate.Fate.{Fate}
use Rattle.thin_pass.specs.Wishing.{is_to_go, fate_at, fates_upto, fates_from, start_behind}

pub long_upto : (is : List Insn) (ws : List Fate) (start n k : ℕ) → length (fates_upto is ws start n k) ≡ k
long_upto is ws start n zero = refl
long_upto is ws start n (suc k) = ap suc (long_upto is ws (start_behind ws start n) (suc n) k)

-- one more fate
pub upto_more : (is : List Insn) (ws : List Fate) (start start' n : ℕ) (fs fs' all : List Fate) → n < length is → fs' ≡ fs ++ fate_at is ws start n ∷ [] → start' ≡ start_behind ws start n
    → fs ++ fates_upto is ws start n (length is - n) ≡ all → fs' ++ fates_upto is ws start' (n + 1) (length is - (n + 1)) ≡ all
upto_more is ws start start' n fs fs' all lt f s h =
    ap (λ (l : List Fate). l ++ fates_upto is ws start' (n + 1) (length is - (n + 1))) f
    ∙ append_assoc fs (fate_at is ws start n ∷ []) (fates_upto is ws start' (n + 1) (length is - (n + 1)))
    ∙ ap (λ (k : ℕ). fs ++ (fate_at is ws start n ∷ fates_upto is ws k (n + 1) (length is - (n + 1)))) s
    ∙ ap (λ (k : ℕ). fs ++ (fate_at is ws start n ∷ fates_upto is ws (start_behind ws start n) k (length is - (n + 1)))) next
    ∙ ap (λ (k : ℕ). fs ++ fates_upto is ws start n k) left
    ∙ h
  where
    next : n + 1 ≡ suc n
    next = omega arith

    left : suc (length is - (n + 1)) ≡ length is - n
    left = omega arith

pub upto_all : (is : List Insn) (ws : List Fate) (start n : ℕ) (fs all : List Fate) → length is ≤ n → fs ++ fates_upto is ws start n (length is - n) ≡ all → fs ≡ all
upto_all is ws start n fs all le h =
    let none : length is - n ≡ 0 = omega arith in
    sym (append-nil fs) ∙ ap (λ (k : ℕ). fs ++ fates_upto is ws start n k) (sym none) ∙ h

-- ---- the fate at a position

-- the positions from the start on up to one are to go, and the start is the first such
pub record IsRun (ws : List Fate) (start n : ℕ) : Type 0 where
  pub all : (k : ℕ) → start ≤ k → k < n → is_to_go ws k ≡ true
  pub least : (k : ℕ) → k ≤ n → ((j : ℕ) → k ≤ j → j < n → is_to_go ws j ≡ true) → start ≤ k

pub record IsFateAt (is : List Insn) (ws : List Fate) (n : ℕ) (f : Fate) : Type 0 where
  pub start : ℕ
  pub run : IsRun ws start n
  pub is_it : f ≡ fate_at is ws start n

below_or : (k n : ℕ) → k < suc n → (k < n) ⊎ (k ≡ n)
below_or k n l = by (cases_lt k n)
  where
    by : (k < n) ⊎ (n ≤ k) → (k < n) ⊎ (k ≡ n)
    by (inl m) = inl m
    by (inr m) = inr (omega (arith, l, m))

module _ (ws : List Fate) where
  run_none : IsRun ws 0 0
  run_none = record { all = λ k l m. absurd (omega (arith, m)); least = λ k l h. omega arith }

  run_next : (start n : ℕ) → IsRun ws start n → IsRun ws (start_behind ws start n) (suc n)
  run_next start n r = by (is_to_go ws n) refl
    where
      by : (t : Bool) → is_to_go ws n ≡ t → IsRun ws (if t then start else suc n) (suc n)
      by true e = record { all = λ k l m. in_run k l (below_or k n m); least = λ k l h. first k h (below_or k (suc n) (omega (arith, l))) }
        where
          in_run : (k : ℕ) → start ≤ k → (k < n) ⊎ (k ≡ n) → is_to_go ws k ≡ true
          in_run k l (inl m) = r.all k l m
          in_run k l (inr d) = ap (is_to_go ws) d ∙ e

          first : (k : ℕ) → ((j : ℕ) → k ≤ j → j < suc n → is_to_go ws j ≡ true) → (k < suc n) ⊎ (k ≡ suc n) → start ≤ k
          first k h (inl m) = r.least k (omega (arith, m)) (λ j l o. h j l (omega (arith, o)))
          first k h (inr d) = let s = r.least n (omega arith) (λ j l o. absurd (omega (arith, l, o))) in omega (arith, s, d)
      by false e = record { all = λ k l m. absurd (omega (arith, l, m)); least = λ k l h. past k h (below_or k (suc n) (omega (arith, l))) }
        where
          past : (k : ℕ) → ((j : ℕ) → k ≤ j → j < suc n → is_to_go ws j ≡ true) → (k < suc n) ⊎ (k ≡ suc n) → suc n ≤ k
          past k h (inl m) = absurd (true≢false (sym (h n (omega (arith, m)) (omega arith)) ∙ e))
          past k h (inr d) = omega (arith, d)

  module _ (is : List Insn) where
    fate_there : (start n k m : ℕ) (f : Fate) → IsRun ws start n → slice_get (fates_upto is ws start n k) m ≡ Some f → IsFateAt is ws (n + m) f
    fate_there start n zero m f r e = cc
    fate_there start n (suc k) zero f r e = let here : n ≡ n + 0 = omega arith in
        let same : f ≡ fate_at is ws start n = cc in
        subst (λ (j : ℕ). IsFateAt is ws j f) here (record { start = start; run = r; is_it = same })
    fate_there start n (suc k) (suc m) f r e = let here : suc n + m ≡ n + suc m = omega arith in
        subst (λ (j : ℕ). IsFateAt is ws j f) here (fate_there (start_behind ws start n) (suc n) k m f (run_next start n r) e)

    -- each fate is the one at its position
    pub fate_is : (n : ℕ) (f : Fate) → slice_get (fates_from is ws 0 (length is)) n ≡ Some f → IsFateAt is ws n f
    fate_is n f e = let here : 0 + n ≡ n = omega arith in subst (λ (j : ℕ). IsFateAt is ws j f) here (fate_there 0 0 (length is) n f run_none e)
