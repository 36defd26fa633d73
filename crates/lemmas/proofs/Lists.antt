-- Lists, and what stands at a place of them.
use Rattle.std.proofs.Common.{◌≡◌, ℕ, zero, suc, ◌<◌, List, [], ◌∷◌, ◌++◌, Option, Some, None, Bool, true, ◌&&◌, ◌||◌, refl, sym, ap, ◌∙◌, arith}
use Rattle.std.specs.Prelude.{length, map, replicate, slice_get, Contains}
use Rattle.std.specs.List.{list_any, list_all}
use Rattle.std.specs.Option.{option_map}
use Rattle.lemmas.proofs.Bools.{and_left, and_right, and_both, or_left, or_right}
use Rattle.lemmas.proofs.Options.{some_same, none_some}

-- ---- places

pub got_short : {A : Type 0} (xs : List A) (n : ℕ) (x : A) → slice_get xs n ≡ Some x → n < length xs
got_short [] n x e = none_some x e
got_short (y ∷ ys) zero x e = omega arith
got_short (y ∷ ys) (suc n) x e = let l : n < length ys = got_short ys n x e in omega (arith, l)

pub get_there : {A : Type 0} (xs : List A) (n : ℕ) → n < length xs → (x : A) × (slice_get xs n ≡ Some x)
get_there [] n l = absurd (omega (arith, l))
get_there (x ∷ xs) zero l = (x, refl)
get_there (x ∷ xs) (suc n) l = get_there xs n (omega (arith, l))

pub contains_here : {A : Type 0} (x : A) (xs : List A) → Contains (x ∷ xs) x
contains_here x xs = (zero, omega arith, refl)

pub contains_there : {A : Type 0} (x : A) (xs : List A) (y : A) → Contains xs y → Contains (x ∷ xs) y
contains_there x xs y c = (suc c.0, omega (arith, c.1), c.2)

-- ---- maps

pub map_long : {A B : Type 0} (f : A → B) (xs : List A) → length (map f xs) ≡ length xs
map_long f [] = refl
map_long f (x ∷ xs) = ap suc (map_long f xs)

pub map_append : {A B : Type 0} (f : A → B) (xs ys : List A) → map f (xs ++ ys) ≡ map f xs ++ map f ys
map_append f [] ys = refl
map_append f (x ∷ xs) ys = ap (λ l. f x ∷ l) (map_append f xs ys)

pub map_replicate : {A B : Type 0} (f : A → B) (n : ℕ) (x : A) → map f (replicate n x) ≡ replicate n (f x)
map_replicate f zero x = refl
map_replicate f (suc n) x = ap (λ l. f x ∷ l) (map_replicate f n x)

pub get_map : {A B : Type 0} (f : A → B) (xs : List A) (n : ℕ) → slice_get (map f xs) n ≡ option_map f (slice_get xs n)
get_map f [] n = refl
get_map f (x ∷ xs) zero = refl
get_map f (x ∷ xs) (suc n) = get_map f xs n

pub got_map : {A B : Type 0} (f : A → B) (xs : List A) (n : ℕ) (x : A) → slice_get xs n ≡ Some x → slice_get (map f xs) n ≡ Some (f x)
got_map f xs n x e = get_map f xs n ∙ ap (option_map f) e

-- ---- tests of all, and of some

pub all_append : {A : Type 0} (f : A → Bool) (xs ys : List A) → list_all f xs ≡ true → list_all f ys ≡ true → list_all f (xs ++ ys) ≡ true
all_append f [] ys h k = k
all_append f (x ∷ xs) ys h k = and_both (f x) (list_all f (xs ++ ys)) (and_left (f x) (list_all f xs) h) (all_append f xs ys (and_right (f x) (list_all f xs) h) k)

pub all_first : {A : Type 0} (f : A → Bool) (xs ys : List A) → list_all f (xs ++ ys) ≡ true → list_all f xs ≡ true
all_first f [] ys h = refl
all_first f (x ∷ xs) ys h = and_both (f x) (list_all f xs) (and_left (f x) (list_all f (xs ++ ys)) h) (all_first f xs ys (and_right (f x) (list_all f (xs ++ ys)) h))

pub all_last : {A : Type 0} (f : A → Bool) (xs ys : List A) → list_all f (xs ++ ys) ≡ true → list_all f ys ≡ true
all_last f [] ys h = h
all_last f (x ∷ xs) ys h = all_last f xs ys (and_right (f x) (list_all f (xs ++ ys)) h)

pub all_more : {A : Type 0} (f g : A → Bool) → ((x : A) → f x ≡ true → g x ≡ true) → (xs : List A) → list_all f xs ≡ true → list_all g xs ≡ true
all_more f g more [] h = refl
all_more f g more (x ∷ xs) h = and_both (g x) (list_all g xs) (more x (and_left (f x) (list_all f xs) h)) (all_more f g more xs (and_right (f x) (list_all f xs) h))

pub all_of : {A : Type 0} (f : A → Bool) (xs : List A) → ((x : A) → Contains xs x → f x ≡ true) → list_all f xs ≡ true
all_of f [] h = refl
all_of f (x ∷ xs) h = and_both (f x) (list_all f xs) (h x (contains_here x xs)) (all_of f xs (λ y c. h y (contains_there x xs y c)))

pub all_in : {A : Type 0} (f : A → Bool) (xs : List A) (x : A) → Contains xs x → list_all f xs ≡ true → f x ≡ true
all_in f [] x (n, l, e) h = let g : ⊥ = omega (arith, l) in absurd g
all_in f (y ∷ ys) x (zero, l, e) h = ap f (sym e) ∙ and_left (f y) (list_all f ys) h
all_in f (y ∷ ys) x (suc n, l, e) h = all_in f ys x (n, omega (arith, l), e) (and_right (f y) (list_all f ys) h)

pub all_at : {A : Type 0} (f : A → Bool) (xs : List A) (n : ℕ) (x : A) → list_all f xs ≡ true → slice_get xs n ≡ Some x → f x ≡ true
all_at f [] n x h e = none_some x e
all_at f (y ∷ ys) zero x h e = ap f (sym (some_same y x e)) ∙ and_left (f y) (list_all f ys) h
all_at f (y ∷ ys) (suc n) x h e = all_at f ys n x (and_right (f y) (list_all f ys) h) e

pub any_right : {A : Type 0} (f : A → Bool) (xs ys : List A) → list_any f ys ≡ true → list_any f (xs ++ ys) ≡ true
any_right f [] ys h = h
any_right f (x ∷ xs) ys h = or_right (f x) (list_any f (xs ++ ys)) (any_right f xs ys h)

pub any_at : {A : Type 0} (f : A → Bool) (xs : List A) (n : ℕ) (x : A) → slice_get xs n ≡ Some x → f x ≡ true → list_any f xs ≡ true
any_at f [] n x e h = none_some x e
any_at f (y ∷ ys) zero x e h = or_left (f y) (list_any f ys) (ap f (some_same y x e) ∙ h)
any_at f (y ∷ ys) (suc n) x e h = or_right (f y) (list_any f ys) (any_at f ys n x e h)
