-- Tests over lists.
use Rattle.std.proofs.Common.{◌≡◌, ℕ, suc, ◌+◌, ◌<◌, ◌≤◌, Bool, true, false, true≢false, List, [], ◌∷◌, length, refl, sym, ap, ◌∙◌, arith, inl, inr, subst}
use Rattle.std.specs.Prelude.{◌||◌, ◌&&◌, ◌++◌, ◌⊎◌, cond, Some, None, Contains, map, find}
use Rattle.std.specs.List.{list_any, list_all}
use Rattle.lemmas.proofs.Bools.{or_false_left, or_false_right}
use Rattle.dalvik_defs.proofs.Same.{or_more}
pub use Rattle.removal_law.specs.Left.{In, here, there}

pub clash : (b : Bool) {A : Type 0} → b ≡ true → b ≡ false → A
clash b e f = absurd (true≢false (sym e ∙ f))

-- a test that answers alike on a list
pub any_same : {A : Type 0} (f g : A → Bool) (xs : List A) → ((x : A) → In x xs → f x ≡ g x) → list_any f xs ≡ list_any g xs
any_same f g [] h = refl
any_same f g (x ∷ xs) h = ap (λ b. b || list_any f xs) (h x (here xs)) ∙ ap (λ b. g x || b) (any_same f g xs (λ y c. h y (there x xs c)))

abbrev pub one_if : Bool → ℕ
one_if true = 1
one_if false = 0

-- how often a test passes
abbrev pub times : {A : Type 0} → (A → Bool) → List A → ℕ
times f [] = 0
times f (x ∷ xs) = one_if (f x) + times f xs

one_small : (b : Bool) → one_if b ≤ 1
one_small true = omega arith
one_small false = omega arith

pub times_bound : {A : Type 0} (f : A → Bool) (xs : List A) → times f xs ≤ length xs
times_bound f [] = omega arith
times_bound f (x ∷ xs) = let a = one_small (f x) in let b = times_bound f xs in omega (arith, a, b)

one_more : (b d : Bool) → (b ≡ true → d ≡ true) → (d ≡ b) ⊎ (one_if b < one_if d)
one_more true d up = inl (up refl)
one_more false true up = inr (omega arith)
one_more false false up = inl refl

one_up : (b d : Bool) → (b ≡ true → d ≡ true) → one_if b ≤ one_if d
one_up true d up = subst (λ x. 1 ≤ one_if x) (sym (up refl)) (omega arith)
one_up false d up = omega arith

pub times_up : {A : Type 0} (f g : A → Bool) → ((x : A) → f x ≡ true → g x ≡ true) → (xs : List A) → times f xs ≤ times g xs
times_up f g up [] = omega arith
times_up f g up (x ∷ xs) = let a = one_up (f x) (g x) (up x) in let b = times_up f g up xs in omega (arith, a, b)

-- Of two tests, the second of which passes where the first one does: they answer alike on a list, or the second passes
-- more often.
pub alike_or_more : {A : Type 0} (f g : A → Bool) → ((x : A) → f x ≡ true → g x ≡ true) → (xs : List A) → ((x : A) → In x xs → g x ≡ f x) ⊎ (times f xs < times g xs)
alike_or_more f g up [] = inl (λ x h. elim h [ ])
alike_or_more {A} f g up (x ∷ xs) = by (one_more (f x) (g x) (up x)) (alike_or_more f g up xs)
  where
    by : (g x ≡ f x) ⊎ (one_if (f x) < one_if (g x)) → ((y : A) → In y xs → g y ≡ f y) ⊎ (times f xs < times g xs)
        → ((y : A) → In y (x ∷ xs) → g y ≡ f y) ⊎ (times f (x ∷ xs) < times g (x ∷ xs))
    by (inl e) (inl h) = inl (λ y c. at_head y c e h)
      where
        at_head : (y : A) → In y (x ∷ xs) → g x ≡ f x → ((z : A) → In z xs → g z ≡ f z) → g y ≡ f y
        at_head y (here ys) e h = e
        at_head y (there z ys c) e h = h y c
    by (inl e) (inr lt) = let a : one_if (f x) ≡ one_if (g x) = ap one_if (sym e) in inr (omega (arith, a, lt))
    by (inr lt) h = let b = times_up f g up xs in inr (omega (arith, lt, b))

pub any_more : {A : Type 0} (f g : A → Bool) → ((x : A) → f x ≡ true → g x ≡ true) → (xs : List A) → list_any f xs ≡ true → list_any g xs ≡ true
any_more f g h [] e = e
any_more f g h (x ∷ xs) e = or_more (f x) (list_any f xs) (g x) (list_any g xs) (h x) (any_more f g h xs) e

-- no element passes where none does
pub none_in : {A : Type 0} (f : A → Bool) (xs : List A) → list_any f xs ≡ false → (x : A) → In x xs → f x ≡ false
none_in f [] e x c = elim c [ ]
none_in f (y ∷ xs) e x (here ys) = or_false_left (f y) (list_any f xs) e
none_in f (y ∷ xs) e x (there z ys c) = none_in f xs (or_false_right (f y) (list_any f xs) e) x c

pub and_left : (a b : Bool) → (a && b) ≡ true → a ≡ true
and_left true b e = refl
and_left false b e = e

pub and_behind : (a b : Bool) → (a && b) ≡ true → b ≡ true
and_behind true b e = e
and_behind false b e = clash true refl (sym e)

pub all_in : {A : Type 0} (f : A → Bool) (xs : List A) → list_all f xs ≡ true → (x : A) → In x xs → f x ≡ true
all_in f [] e x c = elim c [ ]
all_in f (y ∷ xs) e x (here ys) = and_left (f y) (list_all f xs) e
all_in f (y ∷ xs) e x (there z ys c) = all_in f xs (and_behind (f y) (list_all f xs) e) x c

-- what stands in one of two lists, or in a list of images
pub in_front : {A : Type 0} (x : A) (xs ys : List A) → In x xs → In x (xs ++ ys)
in_front x [] ys c = elim c [ ]
in_front x (y ∷ xs) ys (here zs) = here (xs ++ ys)
in_front x (y ∷ xs) ys (there z zs c) = there y (xs ++ ys) (in_front x xs ys c)

pub in_back : {A : Type 0} (x : A) (xs ys : List A) → In x ys → In x (xs ++ ys)
in_back x [] ys c = c
in_back x (y ∷ xs) ys c = there y (xs ++ ys) (in_back x xs ys c)

pub in_either : {A : Type 0} (x : A) (xs ys : List A) → In x (xs ++ ys) → In x xs ⊎ In x ys
in_either x [] ys c = inr c
in_either x (y ∷ xs) ys (here zs) = inl (here xs)
in_either x (y ∷ xs) ys (there z zs c) = elim (in_either x xs ys c) [ inl d ↦ inl (there y xs d) | inr d ↦ inr d ]

pub in_map : {A B : Type 0} (g : A → B) (x : A) (xs : List A) → In x xs → In (g x) (map g xs)
in_map g x [] c = elim c [ ]
in_map g x (y ∷ xs) (here zs) = here (map g xs)
in_map g x (y ∷ xs) (there z zs c) = there (g y) (map g xs) (in_map g x xs c)

-- what a search finds stands in the list and passes the test
pub record FoundIn {A : Type 0} (f : A → Bool) (xs : List A) (x : A) : Type 0 where
  pub is_in : In x xs
  pub passes : f x ≡ true

pub found_in : {A : Type 0} (f : A → Bool) (xs : List A) (x : A) → find f xs ≡ Some x → FoundIn f xs x
found_in f [] x e = clash true refl (ap (λ o. elim o [ Some y ↦ false | None ↦ true ]) e)
found_in {A} f (y ∷ xs) x e = by (f y) refl (found_in f xs x) e
  where
    by : (b : Bool) → f y ≡ b → (find f xs ≡ Some x → FoundIn f xs x) → cond b (Some y) (find f xs) ≡ Some x → FoundIn f (y ∷ xs) x
    by true i h e = let j : y ≡ x = ap (λ o. elim o [ Some z ↦ z | None ↦ y ]) e in subst (FoundIn f (y ∷ xs)) j (record { is_in = here xs; passes = i })
    by false i h e = let r = h e in record { is_in = there y xs r.is_in; passes = r.passes }

pub not_found : {A : Type 0} (f : A → Bool) (xs : List A) → ((x : A) → In x xs → f x ≡ false) → find f xs ≡ None
not_found f [] h = refl
not_found f (y ∷ xs) h = ap (λ b. cond b (Some y) (find f xs)) (h y (here xs)) ∙ not_found f xs (λ x c. h x (there y xs c))

-- what stands in a list, by its place
pub contained : {A : Type 0} (x : A) (xs : List A) → In x xs → Contains xs x
contained x [] c = elim c [ ]
contained x (y ∷ xs) (here ys) = (0, omega arith, refl)
contained x (y ∷ xs) (there z ys c) = let h = contained x xs c in let lt = h.1 in (suc h.0, omega (arith, lt), h.2)
