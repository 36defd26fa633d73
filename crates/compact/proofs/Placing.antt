-- A run more has its numbers.
use Rattle.std.proofs.Common.{◌≡◌, ◌⊎◌, inl, inr, ℕ, zero, suc, ◌+◌, ◌-◌, ◌<◌, ◌≤◌, Bool, true, false, List, [], ◌∷◌, ◌++◌, length, replicate, refl, sym, ap, ◌∙◌, subst, arith, length-append}
use Rattle.std.specs.Prelude.{slice_index}
use Rattle.std.proofs.lemmas.Bool.{cases_lt, false≢true}
use Rattle.std.proofs.lemmas.List.{get_or_append_left, get_or-append-add, length-replicate}
use Rattle.std.proofs.Math.Seq.{get_or-append_seam}
use Rattle.walk_marks.specs.Walks.{is_on}
use Rattle.compact.specs.Ties.{has_some}
use Rattle.compact.specs.Clashes.{Meets}
use Rattle.compact.specs.Placed.{Sets, BarsRun, IsFirstClear, IsRun, counted, IsTop, IsLoose, Placed}
use Rattle.compact.specs.declared.clash.Clash.{Clash}

pub length-counted : (x k : ℕ) → length (counted x k) ≡ k
length-counted x zero = refl
length-counted x (suc k) = length-append (counted x k) ((x + k) ∷ []) ∙ omega (arith, length-counted x k)

counted_at : (x k i : ℕ) → i < k → slice_index (counted x k) i ≡ x + i
counted_at x zero i lt = absurd (omega (arith, lt))
counted_at x (suc k) i lt = at (cases_lt i k) (λ l. counted_at x k i l)
  where
    at : (i < k) ⊎ (k ≤ i) → (i < k → slice_index (counted x k) i ≡ x + i) → slice_index (counted x k ++ (x + k) ∷ []) i ≡ x + i
    at (inl below) h = get_or_append_left (counted x k) ((x + k) ∷ []) 0 i (omega (arith, below, length-counted x k)) ∙ h below
    at (inr le) h = let e : i ≡ length (counted x k) = omega (arith, le, lt, length-counted x k) in
        ap (λ j. slice_index (counted x k ++ (x + k) ∷ []) j) e ∙ get_or-append_seam (counted x k) (x + k) [] 0 ∙ omega (arith, e, length-counted x k)

none_on : (top y : ℕ) → is_on (replicate top false) y ≡ false
none_on zero y = refl
none_on (suc k) zero = refl
none_on (suc k) (suc y) = none_on k y

pub placed_none : (c : Clash) (ties : List (List ℕ)) (used : List Bool) → Placed c ties used [] 0
placed_none c ties used = record {
  falls = λ q lt. absurd (omega (arith, lt));
  apart = λ q r l lt. absurd (omega (arith, lt));
  joined = λ q lt. absurd (omega (arith, lt));
  least = λ r x lt. absurd (omega (arith, lt));
  ends = λ s e. absurd (omega (arith, e));
  is_top = record { over = λ q lt. absurd (omega (arith, lt)); some = λ lt. absurd (omega (arith, lt)) };
}

module _ (c : Clash) (ties : List (List ℕ)) (used : List Bool) (numbers : List ℕ) (top top' x size floor : ℕ) (was : Placed c ties used numbers top) (run : IsRun ties (length numbers) floor size)
    (meets : (r q : ℕ) → r < floor → Meets c r q → is_on used q ≡ true)
    (short : x ≤ top) (clear : x < top → BarsRun c numbers (length numbers) size x → ⊥) (least : (y : ℕ) → y < x → BarsRun c numbers (length numbers) size y)
    (is_top : IsTop used (numbers ++ counted x size) top') where
  abbrev at : ℕ
  at = length numbers

  abbrev all : List ℕ
  all = numbers ++ counted x size

  long : length all ≡ at + size
  long = length-append numbers (counted x size) ∙ omega (arith, length-counted x size)

  old : (q : ℕ) → q < at → slice_index all q ≡ slice_index numbers q
  old q lt = get_or_append_left numbers (counted x size) 0 q lt

  new : (i : ℕ) → i < size → slice_index all (at + i) ≡ x + i
  new i lt = get_or-append-add numbers (counted x size) i 0 ∙ counted_at x size i lt

  -- a register that had its number, or one of the run
  split : (q : ℕ) → q < length all → (q < at) ⊎ ((i : ℕ) × (i < size) × (at + i ≡ q))
  split q lt = elim (cases_lt q at) [ inl below ↦ inl below | inr le ↦ inr (q - at, omega (arith, lt, le, long), omega (arith, le)) ]

  low : x ≤ at
  low = elim (cases_lt at x) [
    | inl lt ↦
        let h : BarsRun c numbers at size at = least at lt in
        let f : slice_index numbers h.2 ≤ h.2 = was.falls h.2 h.3 in
        absurd (omega (arith, f, h.3, h.4))
    | inr le ↦ le
  ]

  no_bar : (i q : ℕ) → i < size → q < at → slice_index numbers q ≡ x + i → Meets c (at + i) q → ⊥
  no_bar i q lt below e m = elim (cases_lt x top) [
    | inl l ↦ clear l (i, lt, q, below, e, m)
    | inr le ↦ let o : slice_index numbers q < top = was.is_top.over q below (meets (at + i) q (omega (arith, lt, run.within)) m) in omega (arith, o, le, e)
  ]

  falls : (q : ℕ) → q < length all → slice_index all q ≤ q
  falls q lt = elim (split q lt) [
    | inl below ↦ omega (arith, old q below, was.falls q below)
    | inr s ↦ subst (λ k. slice_index all k ≤ k) s.2 (omega (arith, new s.0 s.1, low))
  ]

  apart : (q r : ℕ) → q < r → r < length all → Meets c r q → slice_index all r ≡ slice_index all q → ⊥
  apart q r l lt m e = by (split r lt) (split q (omega (arith, l, lt)))
    where
      by : (r < at) ⊎ ((i : ℕ) × (i < size) × (at + i ≡ r)) → (q < at) ⊎ ((i : ℕ) × (i < size) × (at + i ≡ q)) → ⊥
      by (inl below) s = let lq : q < at = omega (arith, below, l) in was.apart q r l below m (sym (old r below) ∙ e ∙ old q lq)
      by (inr s) (inl below) = no_bar s.0 q s.1 below (sym (old q below) ∙ sym e ∙ ap (λ k. slice_index all k) (sym s.2) ∙ new s.0 s.1) (subst (λ k. Meets c k q) (sym s.2) m)
      by (inr s) (inr t) =
          let a : slice_index all r ≡ x + s.0 = ap (λ k. slice_index all k) (sym s.2) ∙ new s.0 s.1 in
          let b : slice_index all q ≡ x + t.0 = ap (λ k. slice_index all k) (sym t.2) ∙ new t.0 t.1 in
          omega (arith, a, b, e, s.2, t.2, l)

  joined : (q : ℕ) → q + 1 < length all → has_some ties q ≡ true → slice_index all (q + 1) ≡ slice_index all q + 1
  joined q lt tied = by (split (q + 1) lt)
    where
      by : (q + 1 < at) ⊎ ((i : ℕ) × (i < size) × (at + i ≡ q + 1)) → slice_index all (q + 1) ≡ slice_index all q + 1
      by (inl below) = old (q + 1) below ∙ was.joined q below tied ∙ ap (λ k. k + 1) (sym (old q (omega (arith, below))))
      by (inr (zero, li, e)) = absurd (false≢true (sym (was.ends q (omega (arith, e))) ∙ tied))
      by (inr (suc j, li, e)) =
          let qe : at + j ≡ q = omega (arith, e) in
          let a : slice_index all (q + 1) ≡ x + suc j = ap (λ k. slice_index all k) (sym e) ∙ new (suc j) li in
          let b : slice_index all q ≡ x + j = ap (λ k. slice_index all k) (sym qe) ∙ new j (omega (arith, li)) in
          omega (arith, a, b)

  meets_least : (r y : ℕ) → r < length all → IsLoose ties r → y < slice_index all r → (q : ℕ) × (q < r) × (slice_index all q ≡ y) × Meets c r q
  meets_least r y lt loose yl = by (split r lt)
    where
      by : (r < at) ⊎ ((i : ℕ) × (i < size) × (at + i ≡ r)) → (q : ℕ) × (q < r) × (slice_index all q ≡ y) × Meets c r q
      by (inl below) =
          let h : (q : ℕ) × (q < r) × (slice_index numbers q ≡ y) × Meets c r q = was.least r y below loose (omega (arith, yl, old r below)) in
          (h.0, h.1, old h.0 (omega (arith, h.1, below)) ∙ h.2, h.3)
      by (inr (suc j, li, e)) = absurd (false≢true (sym (loose.1 (at + j) (omega (arith, e))) ∙ run.tied j (omega (arith, li))))
      by (inr (zero, li, e)) = only (cases_lt 1 size)
        where
          only : (1 < size) ⊎ (size ≤ 1) → (q : ℕ) × (q < r) × (slice_index all q ≡ y) × Meets c r q
          only (inl more) = absurd (false≢true (sym loose.0 ∙ ap (has_some ties) (sym e) ∙ run.tied 0 (omega (arith, more))))
          only (inr one) =
              let a : slice_index all r ≡ x + 0 = ap (λ k. slice_index all k) (sym e) ∙ new 0 li in
              let h : BarsRun c numbers at size y = least y (omega (arith, a, yl)) in
              let z : h.0 ≡ 0 = omega (arith, one, h.1) in
              let n : slice_index numbers h.2 ≡ y = h.4 ∙ omega (arith, z) in
              (h.2, omega (arith, h.3, e), old h.2 h.3 ∙ n, subst (λ k. Meets c k h.2) (ap (λ k. at + k) z ∙ e) h.5)

  pub placed_more : Placed c ties used all top'
  placed_more = record { falls = falls; apart = apart; joined = joined; least = meets_least; ends = λ s e. run.ends s (e ∙ long); is_top = is_top }

-- the first number that isn't barred
pub first_free : (c : Clash) (numbers shown : List ℕ) (size x top : ℕ) (before after seen : List Bool) → shown ≡ numbers → before ≡ replicate top false → seen ≡ after → Sets (BarsRun c shown (length shown) size) before after → IsFirstClear seen x
    → (x < top → BarsRun c numbers (length numbers) size x → ⊥) × ((y : ℕ) → y < x → BarsRun c numbers (length numbers) size y)
first_free c numbers shown size x top before after seen e o n sets clear = (free, barred)
  where
    sets' : Sets (BarsRun c numbers (length numbers) size) before after
    sets' = subst (λ (l : List ℕ). Sets (BarsRun c l (length l) size) before after) e sets

    free : x < top → BarsRun c numbers (length numbers) size x → ⊥
    free lt h = false≢true (sym clear.clear ∙ ap (λ (m : List Bool). is_on m x) n ∙ sets'.on x h (omega (arith, lt, ap length o, length-replicate top false)))

    barred : (y : ℕ) → y < x → BarsRun c numbers (length numbers) size y
    barred y lt = elim (sets'.more y (ap (λ (m : List Bool). is_on m y) (sym n) ∙ clear.before y lt)) [
      | inl i ↦ absurd (false≢true (sym (none_on top y) ∙ ap (λ (m : List Bool). is_on m y) (sym o) ∙ i))
      | inr h ↦ h
    ]

pub top_low : (c : Clash) (ties : List (List ℕ)) (used : List Bool) (numbers : List ℕ) (top : ℕ) → Placed c ties used numbers top → top ≤ length numbers
top_low c ties used numbers top p = elim (cases_lt 0 top) [
  | inl pos ↦ let h : (q : ℕ) × (q < length numbers) × (is_on used q ≡ true) × (slice_index numbers q + 1 ≡ top) = p.is_top.some pos in omega (arith, h.1, h.3, p.falls h.0 h.1)
  | inr le ↦ omega (arith, le)
]
