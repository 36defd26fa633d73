-- Members of lists.
use Rattle.std.proofs.Common.{◌≡◌, ◌⊎◌, inl, inr, ℕ, zero, suc, ◌<◌, ◌≤◌, Bool, true, false, cond, List, [], ◌∷◌, length, Option, Some, None, slice_get, slice_index_or, Contains, refl, sym, ap, ◌∙◌, subst, arith}
use Rattle.std.specs.List.{filter}

pub none : {A : Type 0} (x : A) → Contains [] x → ⊥
none x c = omega (arith, c.1)

pub first : {A : Type 0} (x : A) (xs : List A) → Contains (x ∷ xs) x
first x xs = (0, omega arith, refl)

pub there : {A : Type 0} (y : A) (xs : List A) (x : A) → Contains xs x → Contains (y ∷ xs) x
there y xs x c = (suc c.0, omega (arith, c.1), c.2)

split_at : {A : Type 0} (y : A) (xs : List A) (x : A) (k : ℕ) → k < length (y ∷ xs) → slice_index_or (y ∷ xs) k x ≡ x → (y ≡ x) ⊎ Contains xs x
split_at y xs x zero lt e = inl e
split_at y xs x (suc k) lt e = inr (k, omega (arith, lt), e)

pub split : {A : Type 0} (y : A) (xs : List A) (x : A) → Contains (y ∷ xs) x → (y ≡ x) ⊎ Contains xs x
split y xs x c = split_at y xs x c.0 c.1 c.2

pub in_filter : {A : Type 0} (p : A → Bool) (xs : List A) (x : A) → Contains (filter p xs) x → Contains xs x × (p x ≡ true)
in_filter p [] x c = absurd (none x c)
in_filter p (y ∷ ys) x c = by (p y) refl (λ d. in_filter p ys x d) c
  where
    by : (b : Bool) → p y ≡ b → (Contains (filter p ys) x → Contains ys x × (p x ≡ true)) → Contains (cond b (y ∷ filter p ys) (filter p ys)) x → Contains (y ∷ ys) x × (p x ≡ true)
    by true e again c = elim (split y (filter p ys) x c) [
      | inl s ↦ (subst (λ k. Contains (y ∷ ys) k) s (first y ys), subst (λ k. p k ≡ true) s e)
      | inr r ↦ (there y ys x (again r).0, (again r).1)
    ]
    by false e again c = (there y ys x (again c).0, (again c).1)

pub to_filter : {A : Type 0} (p : A → Bool) (xs : List A) (x : A) → Contains xs x → p x ≡ true → Contains (filter p xs) x
to_filter p [] x c h = absurd (none x c)
to_filter p (y ∷ ys) x c h = by (p y) refl (λ d. to_filter p ys x d h) (split y ys x c)
  where
    by : (b : Bool) → p y ≡ b → (Contains ys x → Contains (filter p ys) x) → (y ≡ x) ⊎ Contains ys x → Contains (cond b (y ∷ filter p ys) (filter p ys)) x
    by true e again (inl s) = subst (λ k. Contains (y ∷ filter p ys) k) s (first y (filter p ys))
    by true e again (inr d) = there y (filter p ys) x (again d)
    by false e again (inl s) = let f : false ≡ true = sym e ∙ subst (λ k. p k ≡ true) (sym s) h in absurd (cc)
    by false e again (inr d) = again d

pub get_past : {A : Type 0} (xs : List A) (n : ℕ) → length xs ≤ n → slice_get xs n ≡ None
get_past [] n le = refl
get_past (x ∷ xs) zero le = absurd (omega arith)
get_past (x ∷ xs) (suc n) le = get_past xs n (omega arith)

pub get_inside : {A : Type 0} (xs : List A) (n : ℕ) (x : A) → slice_get xs n ≡ Some x → n < length xs
get_inside [] n x e = absurd (cc)
get_inside (y ∷ ys) zero x e = omega arith
get_inside (y ∷ ys) (suc n) x e = omega (arith, get_inside ys n x e)

pub get_some : {A : Type 0} (xs : List A) (n : ℕ) → n < length xs → (x : A) × (slice_get xs n ≡ Some x)
get_some [] n lt = absurd (omega arith)
get_some (y ∷ ys) zero lt = (y, refl)
get_some (y ∷ ys) (suc n) lt = get_some ys n (omega arith)
