-- Things of the entries of a list: no more than what the entries have together.
use Rattle.std.proofs.Common.{◌≡◌, ◌≤◌, ◌<◌, ◌⊎◌, inl, inr, ℕ, zero, suc, ◌+◌, ◌*◌, List, [], ◌∷◌, length, Some, refl, subst, arith}
use Rattle.std.specs.Prelude.{slice_get, sum_by}
use Rattle.std.proofs.lemmas.List.Sums.{sum_by-cons}
use Rattle.within_law.proofs.Most.{Most, fewer, none, together}

-- a thing of one of the entries from this one on
pub record OneOf (In : ℕ → List ℕ → Type 0) (from total : ℕ) (w : List ℕ) : Type 0 where
  pub place : ℕ
  pub low : from ≤ place
  pub high : place < total
  pub is : In place w

pub first_or_later : (n k : ℕ) → n ≤ k → (k ≡ n) ⊎ (suc n ≤ k)
first_or_later zero zero low = inl refl
first_or_later zero (suc k) low = inr (omega arith)
first_or_later (suc n) zero low = absurd (omega (arith, low))
first_or_later (suc n) (suc k) low = elim (first_or_later n k (omega (arith, low))) [
  | inl e ↦ inl (omega (arith, e))
  | inr high ↦ inr (omega (arith, high))
]

module _ (In : ℕ → List ℕ → Type 0) where
  pub here_or_later : (from total : ℕ) (w : List ℕ) → OneOf In from total w → In from w ⊎ OneOf In (suc from) total w
  here_or_later from total w h = elim (first_or_later from h.place h.low) [
    | inl e ↦ inl (subst (λ k. In k w) e h.is)
    | inr low ↦ inr (record { place = h.place; low = low; high = h.high; is = h.is })
  ]

  pub no_more : (from total : ℕ) → total ≤ from → (w : List ℕ) → OneOf In from total w → ⊥
  no_more from total all w h = let low = h.low in let high = h.high in omega (arith, low, high, all)

  -- as many as the entries have together
  pub summed : {X : Type 0} (size : X → ℕ) (xs : List X) (from total : ℕ) → from + length xs ≡ total → ((k : ℕ) (x : X) → slice_get xs k ≡ Some x → Most (In (from + k)) (size x)) → Most (OneOf In from total) (sum_by size xs)
  summed size [] from total all each = none (OneOf In from total) (no_more from total (omega (arith, all)))
  summed size (x ∷ xs) from total all each =
      let first : from + 0 ≡ from = omega arith in
      let sum = sum_by-cons size x xs in
      fewer (OneOf In from total) (size x + sum_by size xs) (sum_by size (x ∷ xs))
      (together (OneOf In from total) (size x) (sum_by size xs) (subst (λ n. Most (In n) (size x)) first (each 0 x refl))
      (summed size xs (suc from) total (omega (arith, all)) (λ k y there. (let on : from + suc k ≡ suc from + k = omega arith in subst (λ n. Most (In n) (size y)) on (each (suc k) y there))))
      (here_or_later from total))
      (λ w h. h) (omega (arith, sum))

  one_row : (m n : ℕ) → m + m * n ≤ m * suc n
  one_row m n = grind arith

  -- the same of each entry
  pub rows : (m n from total : ℕ) → from + n ≡ total → ((k : ℕ) → Most (In k) m) → Most (OneOf In from total) (m * n)
  rows m zero from total all each = fewer (OneOf In from total) 0 (m * 0) (none (OneOf In from total) (no_more from total (omega (arith, all)))) (λ w h. h) (omega arith)
  rows m (suc n) from total all each = fewer (OneOf In from total) (m + m * n) (m * suc n)
      (together (OneOf In from total) m (m * n) (each from) (rows m n (suc from) total (omega (arith, all)) each) (here_or_later from total))
      (λ w h. h) (one_row m n)
