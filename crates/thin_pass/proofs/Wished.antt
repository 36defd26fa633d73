-- Wishes, one after another.
use Rattle.std.proofs.Common.{◌≡◌, ◌⊎◌, inl, inr, ℕ, zero, suc, ◌+◌, ◌<◌, ◌≤◌, List, [], ◌∷◌, ◌++◌, length, get_or, Some, slice_get, refl, sym, ap, ◌∙◌, subst, arith}
use Rattle.std.proofs.lemmas.Bool.{cases_lt}
use Rattle.std.proofs.lemmas.List.{length_push, get_or_push, get_or_append_left}
use Rattle.insn_set.specs.declared.form.Insn.{Insn}
use Rattle.body_edit.specs.declared.fate.Fate.{Fate}
use Rattle.body_edit.specs.declared.fate.Fate.TheVariants.{Stays}
use Rattle.thin_pass.specs.Wishing.{wish_at, AreWished}

-- those of so many positions
pub record WishedUpto (want : ℕ → Insn → Fate) (is : List Insn) (ws : List Fate) (n : ℕ) : Type 0 where
  pub long : length ws ≡ n
  pub each : (k : ℕ) (i : Insn) → k < n → slice_get is k ≡ Some i → wish_at ws k ≡ want k i

same_item : (is : List Insn) (n : ℕ) (i d : Insn) → slice_get is n ≡ Some i → get_or is n d ≡ i
same_item [] n i d e = cc
same_item (j ∷ is) zero i d e = cc
same_item (j ∷ is) (suc n) i d e = same_item is n i d e

inside : (is : List Insn) (n : ℕ) (i : Insn) → slice_get is n ≡ Some i → n < length is
inside [] n i e = cc
inside (j ∷ is) zero i e = omega arith
inside (j ∷ is) (suc n) i e = let l = inside is n i e in omega (arith, l)

module _ (want : ℕ → Insn → Fate) (is : List Insn) where
  pub wished_none : (ws : List Fate) → ws ≡ [] → WishedUpto want is ws 0
  wished_none ws e = record { long = ap length e; each = λ k i l g. absurd (omega (arith, l)) }

  pub wished_more : (ws ws' : List Fate) (n : ℕ) (d : Insn) (w : Fate) → WishedUpto want is ws n → w ≡ want n (get_or is n d) → ws' ≡ ws ++ w ∷ [] → WishedUpto want is ws' (n + 1)
  wished_more ws ws' n d w s e f = record {
    long = ap length f ∙ length_push ws w ∙ ap (λ (k : ℕ). k + 1) s.long;
    each = λ k i l g. ap (λ (v : List Fate). wish_at v k) f ∙ by k i l g (cases_lt k n);
  }
    where
      by : (k : ℕ) (i : Insn) → k < n + 1 → slice_get is k ≡ Some i → (k < n) ⊎ (n ≤ k) → wish_at (ws ++ w ∷ []) k ≡ want k i
      by k i l g (inl less) = get_or_append_left ws (w ∷ []) Stays k (omega (arith, less, s.long)) ∙ s.each k i less g
      by k i l g (inr past) = let here : n ≡ k = omega (arith, past, l) in
          subst (λ (j : ℕ). wish_at (ws ++ w ∷ []) j ≡ want j i) here
          (get_or_push ws w Stays n s.long ∙ e ∙ ap (want n) (same_item is n i d (ap (slice_get is) here ∙ g)))

  pub wished_all : (ws : List Fate) (n : ℕ) → n ≡ length is → WishedUpto want is ws n → AreWished want is ws
  wished_all ws n e s = record { long = s.long ∙ e; each = λ k i g. s.each k i (omega (arith, inside is k i g, e)) g }
