-- Numbers below a bound that pass a test.
use Rattle.std.proofs.Common.{◌≡◌, ℕ, zero, suc, ◌<◌, Bool, true, false, refl, sym, ap, ◌∙◌, arith}
use Rattle.std.specs.Prelude.{◌||◌}
use Rattle.removal_law.proofs.Lists.{clash}
use Rattle.static_law.specs.Edited.{any_below}

pub any_has : (n : ℕ) (t : ℕ → Bool) (k : ℕ) → k < n → t k ≡ true → any_below n t ≡ true
any_has zero t k lt e = absurd (omega (arith, lt))
any_has (suc n) t k lt e = by (t n) refl (λ l. any_has n t k l e)
  where
    by : (b : Bool) → t n ≡ b → (k < n → any_below n t ≡ true) → any_below (suc n) t ≡ true
    by true i more = ap (λ b. b || any_below n t) i
    by false i more = ap (λ b. b || any_below n t) i ∙ more (less (λ same. clash (t k) e (ap t same ∙ i)))
      where
        less : (k ≡ n → ⊥) → k < n
        less away = omega (arith, lt, away)

pub any_from : (n : ℕ) (t : ℕ → Bool) → any_below n t ≡ true → (k : ℕ) × ((k < n) × (t k ≡ true))
any_from zero t e = clash false e refl
any_from (suc n) t e = by (t n) refl (any_from n t) e
  where
    by : (b : Bool) → t n ≡ b → (any_below n t ≡ true → (k : ℕ) × ((k < n) × (t k ≡ true))) → any_below (suc n) t ≡ true → (k : ℕ) × ((k < suc n) × (t k ≡ true))
    by true i more e = (n, (omega arith, i))
    by false i more e = let r = more (sym (ap (λ b. b || any_below n t) i) ∙ e) in let lt = r.1.0 in (r.0, (omega (arith, lt), r.1.1))
