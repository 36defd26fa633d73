-- Lists, what stands in them, and tests of all that does.
use Rattle.std.proofs.Common.{◌≡◌, ℕ, zero, suc, Bool, true, List, [], ◌∷◌, ◌++◌, refl, sym, subst, inl, inr, arith}
use Rattle.std.specs.Prelude.{◌⊎◌, map, slice_get, Contains}
use Rattle.std.specs.List.{list_all}
use Rattle.std.specs.Option.{option_map}
use Rattle.pass_defs.specs.Typed.{each}
use Rattle.pass_defs.proofs.Writes.{left_true, right_true, both_true}
use Rattle.form_laws.specs.Changes.{In, here, there}

pub in_contains : {A : Type 0} (x : A) (xs : List A) → Contains xs x → In x xs
in_contains x [] (k, lt, e) = absurd (omega (arith, lt))
in_contains x (y ∷ xs) (zero, lt, e) = subst (λ z. In x (z ∷ xs)) (sym e) (here xs)
in_contains x (y ∷ xs) (suc k, lt, e) = there y xs (in_contains x xs (k, omega (arith, lt), e))

pub split_in : {A : Type 0} (x : A) (xs ys : List A) → In x (xs ++ ys) → In x xs ⊎ In x ys
split_in x [] ys i = inr i
split_in x (y ∷ xs) ys (here zs) = inl (here xs)
split_in x (y ∷ xs) ys (there z zs i) = elim (split_in x xs ys i) [ inl j ↦ inl (there y xs j) | inr j ↦ inr j ]

pub in_map : {A B : Type 0} (g : A → B) (x : A) (xs : List A) → In x xs → In (g x) (map g xs)
in_map g x [] i = elim i [ ]
in_map g x (y ∷ xs) (here zs) = here (map g xs)
in_map g x (y ∷ xs) (there z zs i) = there (g y) (map g xs) (in_map g x xs i)

pub all_in : {A : Type 0} (f : A → Bool) (xs : List A) (x : A) → list_all f xs ≡ true → In x xs → f x ≡ true
all_in f [] x e i = elim i [ ]
all_in f (y ∷ xs) x e (here zs) = left_true (f y) (list_all f xs) e
all_in f (y ∷ xs) x e (there z zs i) = all_in f xs x (right_true (f y) (list_all f xs) e) i

pub all_map : {A B : Type 0} (f : B → Bool) (g : A → B) (xs : List A) → ((x : A) → In x xs → f (g x) ≡ true) → list_all f (map g xs) ≡ true
all_map f g [] h = refl
all_map f g (x ∷ xs) h = both_true (f (g x)) (list_all f (map g xs)) (h x (here xs)) (all_map f g xs (λ y i. h y (there x xs i)))

pub all_each : (n : ℕ) (test : ℕ → Bool) → ((i : ℕ) → test i ≡ true) → each n test ≡ true
all_each zero test h = refl
all_each (suc n) test h = both_true (each n test) (test n) (all_each n test h) (h n)
