-- What lists contain.
use Rattle.std.proofs.Common.{◌≡◌, ℕ, zero, suc, inl, inr, Bool, true, false, true≢false, List, [], ◌∷◌, ◌++◌, Some, refl, sym, ap, subst, ◌∙◌}
use Rattle.std.specs.Prelude.{slice_get, ◌⊎◌, ◌||◌, ◌&&◌}
use Rattle.std.specs.List.{flat_map, list_any, list_all}
use Rattle.stub_library.specs.Lists.{In}

pub in_left : {X : Type 0} (xs ys : List X) (x : X) → In x xs → In x (xs ++ ys)
in_left [] ys x i = absurd i
in_left (z ∷ zs) ys x (inl e) = inl e
in_left (z ∷ zs) ys x (inr i) = inr (in_left zs ys x i)

pub in_right : {X : Type 0} (xs ys : List X) (x : X) → In x ys → In x (xs ++ ys)
in_right [] ys x i = i
in_right (z ∷ zs) ys x i = inr (in_right zs ys x i)

pub in_either : {X : Type 0} (xs ys : List X) (x : X) → In x (xs ++ ys) → In x xs ⊎ In x ys
in_either [] ys x i = inr i
in_either (z ∷ zs) ys x (inl e) = inl (inl e)
in_either (z ∷ zs) ys x (inr i) = elim (in_either zs ys x i) [ inl j ↦ inl (inr j) | inr j ↦ inr j ]

pub in_flat : {X Y : Type 0} (f : X → List Y) (xs : List X) (x : X) (y : Y) → In x xs → In y (f x) → In y (flat_map f xs)
in_flat f [] x y i j = absurd i
in_flat f (z ∷ zs) x y (inl e) j = in_left (f z) (flat_map f zs) y (subst (λ w. In y (f w)) (sym e) j)
in_flat f (z ∷ zs) x y (inr i) j = in_right (f z) (flat_map f zs) y (in_flat f zs x y i j)

pub record FromOne {X Y : Type 0} (f : X → List Y) (xs : List X) (y : Y) : Type 0 where
  pub one : X
  pub is_in : In one xs
  pub has : In y (f one)

pub from_flat : {X Y : Type 0} (f : X → List Y) (xs : List X) (y : Y) → In y (flat_map f xs) → FromOne f xs y
from_flat f [] y i = absurd i
from_flat f (z ∷ zs) y i = elim (in_either (f z) (flat_map f zs) y i) [
  | inl j ↦ record { one = z; is_in = inl refl; has = j }
  | inr j ↦ let r = from_flat f zs y j in record { one = r.one; is_in = inr r.is_in; has = r.has }
]

pub got_in : {X : Type 0} (xs : List X) (i : ℕ) (x : X) → slice_get xs i ≡ Some x → In x xs
got_in [] i x e = cc
got_in (y ∷ ys) zero x e = inl (let z : y ≡ x = cc in z)
got_in (y ∷ ys) (suc i) x e = inr (got_in ys i x e)

pub record Stands {X : Type 0} (xs : List X) (x : X) : Type 0 where
  pub place : ℕ
  pub is : slice_get xs place ≡ Some x

pub in_got : {X : Type 0} (xs : List X) (x : X) → In x xs → Stands xs x
in_got [] x i = absurd i
in_got (y ∷ ys) x (inl e) = record { place = 0; is = ap (λ z. Some z) e }
in_got (y ∷ ys) x (inr i) = let r = in_got ys x i in record { place = suc r.place; is = r.is }

-- ---- tests

pub any_in : {X : Type 0} (test : X → Bool) (xs : List X) (x : X) → In x xs → test x ≡ true → list_any test xs ≡ true
any_in test [] x i e = absurd i
any_in test (y ∷ ys) x (inl s) e = ap (λ b. b || list_any test ys) (ap test s ∙ e)
any_in test (y ∷ ys) x (inr i) e = by (test y) (any_in test ys x i e)
  where
    by : (b : Bool) → list_any test ys ≡ true → (b || list_any test ys) ≡ true
    by true h = refl
    by false h = h

pub record Passes {X : Type 0} (test : X → Bool) (xs : List X) : Type 0 where
  pub one : X
  pub is_in : In one xs
  pub passes : test one ≡ true

pub any_from : {X : Type 0} (test : X → Bool) (xs : List X) → list_any test xs ≡ true → Passes test xs
any_from test [] e = absurd (true≢false (sym e))
any_from test (y ∷ ys) e = by (test y) refl e (any_from test ys)
  where
    by : (b : Bool) → test y ≡ b → (b || list_any test ys) ≡ true → (list_any test ys ≡ true → Passes test ys) → Passes test (y ∷ ys)
    by true f g more = record { one = y; is_in = inl refl; passes = f }
    by false f g more = let r = more g in record { one = r.one; is_in = inr r.is_in; passes = r.passes }

pub all_each : {X : Type 0} (test : X → Bool) (xs : List X) → ((x : X) → In x xs → test x ≡ true) → list_all test xs ≡ true
all_each test [] h = refl
all_each test (y ∷ ys) h = ap (λ b. b && list_all test ys) (h y (inl refl)) ∙ all_each test ys (λ x i. h x (inr i))

pub all_one : {X : Type 0} (test : X → Bool) (xs : List X) (x : X) → list_all test xs ≡ true → In x xs → test x ≡ true
all_one test [] x e i = absurd i
all_one test (y ∷ ys) x e i = by (test y) refl e i (all_one test ys x)
  where
    by : (b : Bool) → test y ≡ b → (b && list_all test ys) ≡ true → (y ≡ x) ⊎ In x ys → (list_all test ys ≡ true → In x ys → test x ≡ true) → test x ≡ true
    by true f g (inl s) more = ap test (sym s) ∙ f
    by true f g (inr j) more = more g j
    by false f g j more = absurd (true≢false (sym g))
