-- What follows where no distance between positions grows.
use Rattle.std.proofs.Common.{◌≡◌, inl, inr, ℕ, zero, suc, ◌+◌, ◌-◌, ◌≤◌, false, List, refl, ap, arith}
use Rattle.std.specs.Prelude.{nat_lt}
use Rattle.std.proofs.lemmas.Bool.{cases_lt, ltb-false, le-ltb, or_parts, or_from}
use Rattle.relax.specs.Sizes.{start, Below}
use Rattle.relax.specs.Far.{spans_far}
use Rattle.relax.proofs.Starts.{start_mono, farther}

-- Positions move in their order, none is skipped, and no distance grows.
pub record Shrinks (at : ℕ → ℕ) (ss ts : List ℕ) : Type 0 where
  pub first : at 0 ≡ 0
  pub rises : (i j : ℕ) → i ≤ j → at i ≤ at j
  pub next : (k : ℕ) → at (suc k) ≤ suc (at k)
  pub nearer : (i j : ℕ) → i ≤ j → start ts (at j) + start ss i ≤ start ss j + start ts (at i)

pub below_shrinks : (ss ts : List ℕ) → Below ts ss → Shrinks (λ n. n) ss ts
below_shrinks ss ts b = record { first = refl; rises = λ i j l. l; next = λ k. omega arith; nearer = λ i j l. farther ts ss i j l b }

module _ (at : ℕ → ℕ) (ss ts : List ℕ) (s : Shrinks at ss ts) where
  pub begins_lower : (i : ℕ) → start ts (at i) ≤ start ss i
  begins_lower i =
      let none : start ts (at 0) ≡ 0 = ap (start ts) s.first in
      let n : start ts (at i) + start ss 0 ≤ start ss i + start ts (at 0) = s.nearer 0 i (omega arith) in
      let o : start ss 0 ≡ 0 = refl in
      omega (arith, n, none, o)

  pub rising : (i j : ℕ) → i ≤ j → start ts (at i) ≤ start ts (at j)
  rising i j l = start_mono ts (at i) (at j) (s.rises i j l)

  pub begins_same : (i j : ℕ) → start ss i ≡ start ss j → start ts (at i) ≡ start ts (at j)
  begins_same i j e = elim (cases_lt i j) [
    | inl l ↦ (let m : i ≤ j = omega (arith, l) in omega (arith, e, rising i j m, s.nearer i j m))
    | inr m ↦ omega (arith, e, rising j i m, s.nearer j i m)
  ]

  pub last_near : (end : ℕ) → at end - 1 ≤ at (end - 1)
  last_near zero = let o : zero - 1 ≡ zero = omega arith in rw o (omega (arith, s.first))
  last_near (suc k) = let o : suc k - 1 ≡ k = omega arith in rw o (omega (arith, s.next k))

  pub stays_near : (first end : ℕ) → start ss (end - 1) ≤ start ss first + 65534 → start ts (at end - 1) ≤ start ts (at first) + 65534
  stays_near first end near =
      let low = start_mono ts (at end - 1) (at (end - 1)) (last_near end) in
      elim (cases_lt (end - 1) first) [
        | inl l ↦ (let m : end - 1 ≤ first = omega (arith, l) in omega (arith, low, rising (end - 1) first m))
        | inr m ↦ omega (arith, low, near, s.nearer first (end - 1) m)
      ]

  pub reaches : (a b : ℕ) → spans_far (start ss a) (start ss b) ≡ false → spans_far (start ts (at a)) (start ts (at b)) ≡ false
  reaches a b e = or_from (nat_lt 32767 (start ts (at b) - start ts (at a))) (nat_lt 32768 (start ts (at a) - start ts (at b)))
      (le-ltb 32767 (start ts (at b) - start ts (at a)) both.0) (le-ltb 32768 (start ts (at a) - start ts (at b)) both.1)
    where
      parts : (nat_lt 32767 (start ss b - start ss a) ≡ false) × (nat_lt 32768 (start ss a - start ss b) ≡ false)
      parts = or_parts (nat_lt 32767 (start ss b - start ss a)) (nat_lt 32768 (start ss a - start ss b)) e

      both : (start ts (at b) - start ts (at a) ≤ 32767) × (start ts (at a) - start ts (at b) ≤ 32768)
      both =
          let f = ltb-false 32767 (start ss b - start ss a) parts.0 in
          let g = ltb-false 32768 (start ss a - start ss b) parts.1 in
          elim (cases_lt a b) [
            | inl l ↦ (let m : a ≤ b = omega (arith, l) in
                let r = rising a b m in
                let n = s.nearer a b m in
                (omega (arith, r, n, f), omega (arith, r, n)))
            | inr m ↦ (let r = rising b a m in
                let n = s.nearer b a m in
                (omega (arith, r, n), omega (arith, r, n, g)))
          ]
