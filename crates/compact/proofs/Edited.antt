-- Lists whose items were edited in place, one after the other.
use Rattle.std.proofs.Common.{◌≡◌, ℕ, zero, suc, ◌+◌, ◌<◌, ◌≤◌, List, [], ◌∷◌, length, get_or, Some, None, refl, sym, ap, ◌∙◌, subst, arith, ◌⊎◌, inl, inr}
use Rattle.std.proofs.Math.ListN.{set}
use Rattle.std.specs.Prelude.{slice_get}
use Rattle.std.proofs.lemmas.Bool.{cases_eq, cases_lt}
use Rattle.std.proofs.lemmas.List.{length-set}
use Rattle.std.proofs.lemmas.Option.{slice_get_within, slice_get-get_or}
use Rattle.compact.specs.Renamed.{AreEach, AreEdited, IsCounted}

pub set_here : {A : Type 0} (xs : List A) (i : ℕ) (y : A) → i < length xs → slice_get (set xs i y) i ≡ Some y
set_here [] i y lt = absurd (omega arith)
set_here (x ∷ xs) zero y lt = refl
set_here (x ∷ xs) (suc i) y lt = set_here xs i y (omega arith)

pub set_there : {A : Type 0} (xs : List A) (i k : ℕ) (y : A) → (k ≡ i → ⊥) → slice_get (set xs i y) k ≡ slice_get xs k
set_there [] i k y ne = refl
set_there (x ∷ xs) zero zero y ne = absurd (ne refl)
set_there (x ∷ xs) zero (suc k) y ne = refl
set_there (x ∷ xs) (suc i) zero y ne = refl
set_there (x ∷ xs) (suc i) (suc k) y ne = set_there xs i k y (λ e. ne (ap suc e))

set_same : {A : Type 0} (xs : List A) (i : ℕ) (y : A) → slice_get xs i ≡ Some y → set xs i y ≡ xs
set_same [] i y e = absurd (cc)
set_same (x ∷ xs) zero y e = let h : x ≡ y = cc in ap (λ z. z ∷ xs) (sym h)
set_same (x ∷ xs) (suc i) y e = ap (λ zs. x ∷ zs) (set_same xs i y e)

-- lists that have the same at each place
pub same_items : {A : Type 0} (xs ys : List A) → ((k : ℕ) → slice_get ys k ≡ slice_get xs k) → ys ≡ xs
same_items [] [] h = refl
same_items [] (y ∷ ys) h = let e : Some y ≡ None = h 0 in absurd (cc)
same_items (x ∷ xs) [] h = let e : None ≡ Some x = h 0 in absurd (cc)
same_items (x ∷ xs) (y ∷ ys) h = let e : Some y ≡ Some x = h 0 in let i : y ≡ x = cc in ap (λ z. z ∷ ys) i ∙ ap (λ zs. x ∷ zs) (same_items xs ys (λ k. h (suc k)))

pub none_edited : {A : Type 0} (R : A → A → Type 0) (xs : List A) → AreEdited R 0 0 xs xs
none_edited R xs = record { long = refl; done = λ k x lt h. absurd (omega arith); rest = λ k le. refl; same = λ e. refl; differs = λ lt e. omega arith }

-- one item more: what was counted so far, what is counted for the item, and their sum, which is 0 where both are
module _ {A : Type 0} (R : A → A → Type 0) (old new : List A) (i count more total : ℕ) (d x y : A) (lt : i < length new) (is : x ≡ get_or new i d) (was : AreEdited R i count old new) (step : R x y) (counted : IsCounted more x y)
    (none : total ≡ 0 → (count ≡ 0) × (more ≡ 0)) (some : 0 < total → (0 < count) ⊎ (0 < more)) where
  before : slice_get new i ≡ Some x
  before = slice_get-get_or new i d lt ∙ ap Some (sym is)

  first : slice_get old i ≡ Some x
  first = sym (was.rest i (omega arith)) ∙ before

  done : (k : ℕ) (z : A) → k < i + 1 → slice_get old k ≡ Some z → (u : A) × (slice_get (set new i y) k ≡ Some u) × R z u
  done k z le h = at (cases_eq k i)
    where
      at : (k ≡ i) ⊎ (k ≡ i → ⊥) → (u : A) × (slice_get (set new i y) k ≡ Some u) × R z u
      at (inl e) =
          let o : Some z ≡ Some x = sym h ∙ ap (slice_get old) e ∙ first in
          let s : x ≡ z = cc in
          (y, subst (λ j. slice_get (set new i y) j ≡ Some y) (sym e) (set_here new i y lt), subst (λ v. R v y) s step)
      at (inr ne) = let u : (u : A) × (slice_get new k ≡ Some u) × R z u = was.done k z (omega arith) h in (u.0, set_there new i k y ne ∙ u.1, u.2)

  rest : (k : ℕ) → i + 1 ≤ k → slice_get (set new i y) k ≡ slice_get old k
  rest k le = let ne : k ≡ i → ⊥ = λ e. omega arith in set_there new i k y ne ∙ was.rest k (omega arith)

  unchanged : more ≡ 0 → set new i y ≡ new
  unchanged e = set_same new i y (before ∙ ap Some (sym (counted.same e)))

  same : total ≡ 0 → set new i y ≡ old
  same e = let p : (count ≡ 0) × (more ≡ 0) = none e in unchanged p.1 ∙ was.same p.0

  changes : 0 < more → set new i y ≡ old → ⊥
  changes lt' e =
      let o : Some y ≡ Some x = sym (set_here new i y lt) ∙ ap (λ xs. slice_get xs i) e ∙ first in
      let s : y ≡ x = cc in
      counted.differs lt' s

  differs : 0 < total → set new i y ≡ old → ⊥
  differs pos e = by (cases_lt 0 more)
    where
      by : (0 < more) ⊎ (more ≤ 0) → ⊥
      by (inl m) = changes m e
      by (inr m) = let z : more ≡ 0 = omega arith in elim (some pos) [ inl p ↦ was.differs p (sym (unchanged z) ∙ e) | inr p ↦ omega (arith, p) ]

  pub one_edited : AreEdited R (i + 1) total old (set new i y)
  one_edited = record { long = length-set new i y ∙ was.long; done = done; rest = rest; same = same; differs = differs }

pub each_edited : {A : Type 0} (R : A → A → Type 0) (old new : List A) (k count : ℕ) → k ≡ length old → AreEdited R k count old new → AreEach R old new
each_edited R old new k count e are = record { long = are.long; each = λ i x h. are.done i x (let lt : i < length old = slice_get_within old i x h in omega arith) h }

pub count_edited : {A : Type 0} (R : A → A → Type 0) (old new : List A) (k count : ℕ) → AreEdited R k count old new → IsCounted count old new
count_edited R old new k count are = record { same = are.same; differs = are.differs }

pub sums_to_some : (m n : ℕ) → 0 < m + n → (0 < m) ⊎ (0 < n)
sums_to_some m n lt = by (cases_lt 0 m)
  where
    by : (0 < m) ⊎ (m ≤ 0) → (0 < m) ⊎ (0 < n)
    by (inl pos) = inl pos
    by (inr le) = inr (omega arith)
