-- What stands in a list.
use Rattle.std.proofs.Common.{◌≡◌, ◌<◌, ◌⊎◌, inl, inr, ⊎_elim, ℕ, zero, suc, Bool, true, false, cond, List, [], ◌∷◌, ◌++◌, map, refl, sym, ap, subst, ◌∙◌, Option, Some, None}
use Rattle.std.specs.Prelude.{slice_get, nat_eq, if◌then◌else◌, Contains}
use Rattle.std.specs.List.{flat_map, list_any, AllByRecursion}
use Rattle.std.proofs.lemmas.Bool.{eqb-true}
use Rattle.lemmas.proofs.Lists.{contains_here, contains_there}
use Rattle.lemmas.proofs.Options.{some_same}
use Rattle.dex_pools.specs.declared.used.Named.{Named}
use Rattle.dex_pools.specs.Used.{joined}
use Rattle.dex_defs.specs.Written.{insert, in_order}

abbrev pub In : {X : Type 0} → X → List X → Type 0
In x [] = ⊥
In x (y ∷ ys) = (y ≡ x) ⊎ In x ys

pub in_left : {X : Type 0} (x : X) (xs ys : List X) → In x xs → In x (xs ++ ys)
in_left x [] ys i = absurd i
in_left x (y ∷ xs) ys (inl e) = inl e
in_left x (y ∷ xs) ys (inr i) = inr (in_left x xs ys i)

pub in_right : {X : Type 0} (x : X) (xs ys : List X) → In x ys → In x (xs ++ ys)
in_right x [] ys i = i
in_right x (y ∷ xs) ys i = inr (in_right x xs ys i)

pub in_split : {X : Type 0} (x : X) (xs ys : List X) → In x (xs ++ ys) → In x xs ⊎ In x ys
in_split x [] ys i = inr i
in_split x (y ∷ xs) ys (inl e) = inl (inl e)
in_split x (y ∷ xs) ys (inr i) = elim (in_split x xs ys i) [ inl j ↦ inl (inr j) | inr j ↦ inr j ]

pub in_map : {X Y : Type 0} (f : X → Y) (x : X) (xs : List X) → In x xs → In (f x) (map f xs)
in_map f x [] i = absurd i
in_map f x (y ∷ xs) (inl e) = inl (ap f e)
in_map f x (y ∷ xs) (inr i) = inr (in_map f x xs i)

-- one of which a thing of a joined list is
pub record Source {X Y : Type 0} (f : X → List Y) (y : Y) (xs : List X) : Type 0 where
  pub x : X
  pub is : In x xs
  pub has : In y (f x)

pub in_source : {X Y : Type 0} (f : X → List Y) (y : Y) (xs : List X) → In y (flat_map f xs) → Source f y xs
in_source f y [] i = absurd i
in_source f y (x ∷ xs) i = elim (in_split y (f x) (flat_map f xs) i) [ inl j ↦ record { x = x; is = inl refl; has = j } | inr j ↦ further (in_source f y xs j) ]
  where
    further : Source f y xs → Source f y (x ∷ xs)
    further s = record { x = s.x; is = inr s.is; has = s.has }

pub in_flat : {X Y : Type 0} (f : X → List Y) (y : Y) (x : X) (xs : List X) → In x xs → In y (f x) → In y (flat_map f xs)
in_flat f y x [] i j = absurd i
in_flat f y x (z ∷ xs) (inl e) j = in_left y (f z) (flat_map f xs) (subst (λ w. In y (f w)) (sym e) j)
in_flat f y x (z ∷ xs) (inr i) j = in_right y (f z) (flat_map f xs) (in_flat f y x xs i j)

pub in_joined : {X : Type 0} (f : X → List Named) (n : Named) (x : X) (xs : List X) → In x xs → In n (f x) → In n (joined (map f xs))
unfolding joined
in_joined f n x [] i j = absurd i
in_joined f n x (z ∷ xs) (inl e) j = in_left n (f z) (joined (map f xs)) (subst (λ w. In n (f w)) (sym e) j)
in_joined f n x (z ∷ xs) (inr i) j = in_right n (f z) (joined (map f xs)) (in_joined f n x xs i j)

-- ---- order keeps what stands in a list

pub in_insert : {X : Type 0} (below : X → X → Bool) (x y : X) (ys : List X) → In x (y ∷ ys) → In x (insert below y ys)
in_insert below x y [] i = i
in_insert below x y (z ∷ ys) i = by_test (below y z) refl i (λ j. in_insert below x y ys j)
  where
    by_test : (t : Bool) → below y z ≡ t → In x (y ∷ (z ∷ ys)) → (In x (y ∷ ys) → In x (insert below y ys)) → In x (if below y z then y ∷ (z ∷ ys) else z ∷ insert below y ys)
    by_test true e j on = rw e j
    by_test false e (inl s) on = rw e (inr (on (inl s)))
    by_test false e (inr (inl s)) on = rw e (inl s)
    by_test false e (inr (inr j)) on = rw e (inr (on (inr j)))

pub in_order_has : {X : Type 0} (below : X → X → Bool) (x : X) (xs : List X) → In x xs → In x (in_order below xs)
in_order_has below x [] i = absurd i
in_order_has below x (y ∷ xs) (inl e) = in_insert below x y (in_order below xs) (inl e)
in_order_has below x (y ∷ xs) (inr i) = in_insert below x y (in_order below xs) (inr (in_order_has below x xs i))

-- ---- by places

pub in_got : {X : Type 0} (xs : List X) (k : ℕ) (x : X) → slice_get xs k ≡ Some x → In x xs
in_got [] k x e = absurd cc
in_got (y ∷ xs) zero x e = inl (some_same y x e)
in_got (y ∷ xs) (suc k) x e = inr (in_got xs k x e)

pub record Place {X : Type 0} (x : X) (xs : List X) : Type 0 where
  pub at : ℕ
  pub is : slice_get xs at ≡ Some x

pub place_in : {X : Type 0} (x : X) (xs : List X) → In x xs → Place x xs
place_in x [] i = absurd i
place_in x (y ∷ xs) (inl e) = record { at = 0; is = ap (λ z. Some z) e }
place_in x (y ∷ xs) (inr i) = let p = place_in x xs i in record { at = suc p.at; is = p.is }

pub in_contains : {X : Type 0} (x : X) (xs : List X) → In x xs → Contains xs x
in_contains x [] i = absurd i
in_contains x (y ∷ xs) (inl e) = subst (λ z. Contains (z ∷ xs) x) (sym e) (contains_here x xs)
in_contains x (y ∷ xs) (inr i) = contains_there y xs x (in_contains x xs i)

pub has_in : (k : ℕ) (ks : List ℕ) → list_any (nat_eq k) ks ≡ true → In k ks
has_in k [] h = absurd cc
has_in k (x ∷ xs) h = by_head (nat_eq k x) refl h (λ j. has_in k xs j)
  where
    by_head : (t : Bool) → nat_eq k x ≡ t → list_any (nat_eq k) (x ∷ xs) ≡ true → (list_any (nat_eq k) xs ≡ true → In k xs) → In k (x ∷ xs)
    by_head true e j on = inl (sym (eqb-true k x e))
    by_head false e j on = inr (on (rw e at j))

pub all_in : {X : Type 0} (P : X → Type 0) (x : X) (xs : List X) → AllByRecursion P xs → In x xs → P x
all_in P x [] h i = absurd i
all_in P x (y ∷ xs) h (inl e) = subst P e h.0
all_in P x (y ∷ xs) h (inr i) = all_in P x xs h.1 i

pub all_of : {X : Type 0} (P : X → Type 0) (xs : List X) → ((x : X) → In x xs → P x) → AllByRecursion P xs
all_of P [] h = tt
all_of P (x ∷ xs) h = (h x (inl refl), all_of P xs (λ y i. h y (inr i)))
