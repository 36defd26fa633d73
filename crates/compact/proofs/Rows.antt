-- Rows that are turned round, and tests of lists.
use Rattle.std.proofs.Common.{◌≡◌, ◌↔◌, inl, inr, ℕ, zero, suc, ◌<◌, Bool, true, List, [], ◌∷◌, map, length, Option, Some, None, nat_eq, Contains, refl, sym, ap, ◌∙◌, subst, arith}
use Rattle.std.specs.Prelude.{not, slice_get}
use Rattle.std.specs.List.{list_any}
use Rattle.std.proofs.lemmas.Bool.{cases_lt, false≢true, or_cases, or_left, or_right, ne_eqb}
use Rattle.std.proofs.lemmas.List.{get_or_past}
use Rattle.insn_set.specs.declared.form.Insn.{Insn}
use Rattle.walk_marks.specs.Walks.{AreTurned, row_of}
use Rattle.body_graph.proofs.Members.{none, first, there, split, get_past}
use Rattle.compact.specs.Ties.{has_some}

pub rows_turned : (f : Option Insn → List ℕ) (insns : List Insn) (rows given back : List (List ℕ)) (count : ℕ) → f None ≡ [] → length rows ≡ length insns → ((n : ℕ) → n < length insns → row_of rows n ≡ f (slice_get insns n)) → given ≡ rows → AreTurned given count back
    → (r n : ℕ) → r < count → Contains (row_of back r) n ↔ Contains (f (slice_get insns n)) r
rows_turned f insns rows given back count nothing long is same turned r n lt = (
  (λ c. subst (λ (l : List ℕ). Contains l r) (row n) ((turned n r lt).0 c)),
  (λ h. (turned n r lt).1 (subst (λ (l : List ℕ). Contains l r) (sym (row n)) h)),
)
  where
    row : (n : ℕ) → row_of given n ≡ f (slice_get insns n)
    row n = ap (λ (l : List (List ℕ)). row_of l n) same ∙ elim (cases_lt n (length insns)) [
      | inl inside ↦ is n inside
      | inr past ↦ get_or_past rows n [] (omega (arith, past, long)) ∙ sym (ap f (get_past insns n past) ∙ nothing)
    ]

-- ---- tests of lists

pub any_in : {A : Type 0} (p : A → Bool) (xs : List A) (x : A) → Contains xs x → p x ≡ true → list_any p xs ≡ true
any_in p [] x c h = absurd (none x c)
any_in p (y ∷ ys) x c h = elim (split y ys x c) [ inl e ↦ or_left (p y) (list_any p ys) (ap p e ∙ h) | inr d ↦ or_right (p y) (list_any p ys) (any_in p ys x d h) ]

pub any_of : {A : Type 0} (p : A → Bool) (xs : List A) → list_any p xs ≡ true → (x : A) × Contains xs x × (p x ≡ true)
any_of p [] h = absurd (false≢true h)
any_of p (y ∷ ys) h = elim (or_cases (p y) (list_any p ys) h) [
  | inl e ↦ (y, first y ys, e)
  | inr i ↦ let u : (x : _) × Contains ys x × (p x ≡ true) = any_of p ys i in (u.0, there y ys u.0 u.1, u.2)
]

pub any_at : {A : Type 0} (p : A → Bool) (xs : List A) (n : ℕ) (x : A) → slice_get xs n ≡ Some x → p x ≡ true → list_any p xs ≡ true
any_at p [] n x e h = absurd (cc)
any_at p (y ∷ ys) zero x e h = let s : y ≡ x = cc in or_left (p y) (list_any p ys) (ap p s ∙ h)
any_at p (y ∷ ys) (suc n) x e h = or_right (p y) (list_any p ys) (any_at p ys n x e h)

pub any_place : {A : Type 0} (p : A → Bool) (xs : List A) → list_any p xs ≡ true → (n : ℕ) × (x : A) × (slice_get xs n ≡ Some x) × (p x ≡ true)
any_place p [] h = absurd (false≢true h)
any_place p (y ∷ ys) h = elim (or_cases (p y) (list_any p ys) h) [
  | inl e ↦ (0, y, refl, e)
  | inr i ↦ let u : (n : ℕ) × (x : _) × (slice_get ys n ≡ Some x) × (p x ≡ true) = any_place p ys i in (suc u.0, u.1, u.2, u.3)
]

pub map_fixed : {A : Type 0} (f : A → A) (xs : List A) (n : ℕ) (x : A) → map f xs ≡ xs → slice_get xs n ≡ Some x → f x ≡ x
map_fixed f [] n x e h = absurd (cc)
map_fixed f (y ∷ ys) zero x e h = let s : y ≡ x = cc in let head : f y ≡ y = cc in subst (λ z. f z ≡ z) s head
map_fixed f (y ∷ ys) (suc n) x e h = let tail : map f ys ≡ ys = cc in map_fixed f ys n x tail h

-- ---- rows that aren't empty

pub some_row : (rows : List (List ℕ)) (r n : ℕ) → Contains (row_of rows r) n → has_some rows r ≡ true
some_row rows r n c = at (row_of rows r) c
  where
    at : (xs : List ℕ) → Contains xs n → not (nat_eq (length xs) 0) ≡ true
    at [] d = absurd (none n d)
    at (x ∷ xs) d = ap not (ne_eqb (length (x ∷ xs)) 0 (λ e. omega (arith, e)))

pub row_some : (rows : List (List ℕ)) (r : ℕ) → has_some rows r ≡ true → (n : ℕ) × Contains (row_of rows r) n
row_some rows r h = at (row_of rows r) h
  where
    at : (xs : List ℕ) → not (nat_eq (length xs) 0) ≡ true → (n : ℕ) × Contains xs n
    at [] e = absurd (false≢true e)
    at (x ∷ xs) e = (x, first x xs)
