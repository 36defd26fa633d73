-- Lists whose items were edited in place, one after the other.
use Rattle.std.proofs.Common.{◌≡◌, ℕ, zero, suc, ◌+◌, ◌<◌, ◌≤◌, List, [], ◌∷◌, ◌++◌, map, take, drop, length, get_or, Some, None, Option, refl, sym, ap, ◌∙◌, subst, arith, ◌⊎◌, inl, inr, add-one}
use Rattle.std.proofs.Math.ListN.{set}
use Rattle.std.proofs.Math.Seq.{take-nil}
use Rattle.std.specs.Prelude.{slice_get}
use Rattle.std.proofs.lemmas.Bool.{cases_eq}
use Rattle.std.proofs.lemmas.List.{length-set, set-get_or}
use Rattle.std.proofs.lemmas.Option.{slice_get_within, slice_get-get_or}
use Rattle.program_model.specs.declared.pools.MethodName.{MethodName}
use Rattle.program_model.specs.declared.program.Class.{Class}
use Rattle.program_model.specs.declared.program.Program.{Program}
use Rattle.static_protos.specs.Tables.{Tables}
use Rattle.staticise.specs.Loosened.{AreEach, AreEdited, name_with, names_with, extended, IsLoosenedClass, IsLoosenedBy}

-- ---- each item by a function

set_next : {A : Type 0} (f : A → A) (xs : List A) (i : ℕ) (d : A) → i < length xs
    → set (map f (take i xs) ++ drop i xs) i (f (get_or (map f (take i xs) ++ drop i xs) i d)) ≡ map f (take (suc i) xs) ++ drop (suc i) xs
set_next f [] i d h = absurd (omega arith)
set_next f (x ∷ xs) zero d h = refl
set_next f (x ∷ xs) (suc i) d h = ap (λ l. f x ∷ l) (set_next f xs i d (omega arith))

-- the step of the loop, for a list that has come so far
pub each_more : {A : Type 0} (f : A → A) (xs ys : List A) (i : ℕ) (d y : A) → i < length xs → ys ≡ map f (take i xs) ++ drop i xs → y ≡ f (get_or ys i d)
    → set ys i y ≡ map f (take (i + 1) xs) ++ drop (i + 1) xs
each_more f xs ys i d y h e r = rw (add-one, r, e) (set_next f xs i d h)

-- ---- each item by a relation

set_here : {A : Type 0} (xs : List A) (i : ℕ) (y : A) → i < length xs → slice_get (set xs i y) i ≡ Some y
set_here [] i y lt = absurd (omega arith)
set_here (x ∷ xs) zero y lt = refl
set_here (x ∷ xs) (suc i) y lt = set_here xs i y (omega arith)

set_there : {A : Type 0} (xs : List A) (i k : ℕ) (y : A) → (k ≡ i → ⊥) → slice_get (set xs i y) k ≡ slice_get xs k
set_there [] i k y ne = refl
set_there (x ∷ xs) zero zero y ne = absurd (ne refl)
set_there (x ∷ xs) zero (suc k) y ne = refl
set_there (x ∷ xs) (suc i) zero y ne = refl
set_there (x ∷ xs) (suc i) (suc k) y ne = set_there xs i k y (λ e. ne (ap suc e))

pub none_edited : {A : Type 0} (R : A → A → Type 0) (xs : List A) → AreEdited R 0 xs xs
none_edited R xs = record { long = refl; done = λ k x lt h. absurd (omega arith); rest = λ k le. refl }

-- one item more
module _ {A : Type 0} (R : A → A → Type 0) (old new : List A) (i : ℕ) (d x y : A) (lt : i < length new) (is : x ≡ get_or new i d) (was : AreEdited R i old new) (step : R x y) where
  before : slice_get new i ≡ Some x
  before = slice_get-get_or new i d lt ∙ ap Some (sym is)

  first : slice_get old i ≡ Some x
  first = sym (was.rest i (omega arith)) ∙ before

  done : (k : ℕ) (z : A) → k < i + 1 → slice_get old k ≡ Some z → (u : A) × (slice_get (set new i y) k ≡ Some u) × R z u
  done k z le h = at (cases_eq k i)
    where
      at : (k ≡ i) ⊎ (k ≡ i → ⊥) → (u : A) × (slice_get (set new i y) k ≡ Some u) × R z u
      at (inl e) =
          let o : Some z ≡ Some x = sym h ∙ ap (slice_get old) e ∙ first in
          let s : x ≡ z = cc in
          (y, subst (λ j. slice_get (set new i y) j ≡ Some y) (sym e) (set_here new i y lt), subst (λ v. R v y) s step)
      at (inr ne) = let u : (u : A) × (slice_get new k ≡ Some u) × R z u = was.done k z (omega arith) h in (u.0, set_there new i k y ne ∙ u.1, u.2)

  rest : (k : ℕ) → i + 1 ≤ k → slice_get (set new i y) k ≡ slice_get old k
  rest k le = let ne : k ≡ i → ⊥ = λ e. omega arith in set_there new i k y ne ∙ was.rest k (omega arith)

  pub one_edited : AreEdited R (i + 1) old (set new i y)
  one_edited = record { long = length-set new i y ∙ was.long; done = done; rest = rest }

pub each_edited : {A : Type 0} (R : A → A → Type 0) (old new : List A) (k : ℕ) → length old ≤ k → AreEdited R k old new → AreEach R old new
each_edited R old new k le are = record { long = are.long; each = λ i x h. are.done i x (let lt : i < length old = slice_get_within old i x h in omega arith) h }

-- ---- protos

step : (os : List (Option ℕ)) (qs : List MethodName) (i : ℕ) (d : MethodName) → i < length qs
    → set (names_with (take i os) qs) i (name_with (get_or (names_with (take i os) qs) i d) (get_or os i None)) ≡ names_with (take (suc i) os) qs
step [] qs i d lt = ap (λ p. set (names_with p qs) i (get_or (names_with p qs) i d)) (take-nil i) ∙ set-get_or qs i d
step (o ∷ os) [] i d lt = absurd (omega arith)
step (o ∷ os) (q ∷ qs) zero d lt = refl
step (o ∷ os) (q ∷ qs) (suc i) d lt = ap (λ l. name_with q o ∷ l) (step os qs i d (omega arith))

-- one method number more
pub names_more : (os : List (Option ℕ)) (old new : List MethodName) (i : ℕ) (d q : MethodName) (o : Option ℕ) → i < length old → new ≡ names_with (take i os) old → o ≡ get_or os i None
    → q ≡ name_with (get_or new i d) o → set new i q ≡ names_with (take (i + 1) os) old
names_more os old new i d q o lt is e f =
    let s : i + 1 ≡ suc i = omega arith in
    ap (λ l. set l i q) is
    ∙ ap (set (names_with (take i os) old) i) (f ∙ ap (name_with (get_or new i d)) e ∙ ap (λ l. name_with (get_or l i d) (get_or os i None)) is)
    ∙ step os old i d lt
    ∙ ap (λ k. names_with (take k os) old) (sym s)

front : (os : List (Option ℕ)) (qs : List MethodName) (i : ℕ) → length qs ≤ i → names_with (take i os) qs ≡ names_with os qs
front [] qs i le = ap (λ p. names_with p qs) (take-nil i)
front (o ∷ os) [] zero le = refl
front (o ∷ os) [] (suc i) le = refl
front (o ∷ os) (q ∷ qs) zero le = absurd (omega arith)
front (o ∷ os) (q ∷ qs) (suc i) le = ap (λ l. name_with q o ∷ l) (front os qs i (omega arith))

pub names_all : (os : List (Option ℕ)) (old new : List MethodName) (i : ℕ) → length old ≤ i → new ≡ names_with (take i os) old → new ≡ names_with os old
names_all os old new i le is = is ∙ front os old i le

-- ---- programs

-- classes first, then tables
pub loosened_by : (t : Tables) (p q r : Program) → q ≡ record p { classes = q.classes } → AreEach (IsLoosenedClass p t.given) p.classes q.classes → r ≡ extended t q → IsLoosenedBy p t r
loosened_by t p q r h each e =
    let G : List Class → Program = λ cs. record (extended t p) { classes = cs } in
    let s : r.classes ≡ q.classes = ap (λ (x : Program). x.classes) e in
    record {
      classes = subst (AreEach (IsLoosenedClass p t.given) p.classes) (sym s) each;
      rest = e ∙ ap (extended t) h ∙ ap G (sym s);
    }
