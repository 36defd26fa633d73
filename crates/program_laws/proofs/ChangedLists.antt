-- Lists and options whose items are changed.
use Rattle.std.proofs.Common.{◌≡◌, suc, Bool, true, false, true≢false, List, [], ◌∷◌, ◌++◌, length, refl, sym, ap, ◌∙◌}
use Rattle.std.specs.Prelude.{◌&&◌, ◌||◌, cond, Some, map, find, flat_map}
use Rattle.std.specs.List.{list_any, list_all}
use Rattle.std.specs.Option.{option_map}
use Rattle.lemmas.proofs.Bools.{and_right}
use Rattle.lemmas.proofs.Lists.{map_append}

pub and_left : (a b : Bool) → (a && b) ≡ true → a ≡ true
and_left true b e = refl
and_left false b e = e

pub and_both : (a b : Bool) → a ≡ true → b ≡ true → (a && b) ≡ true
and_both true b e f = f
and_both false b e f = e

-- a search whose test looks at nothing that changes
pub find_same : {A : Type 0} (g : A → A) (f : A → Bool) → ((x : A) → f (g x) ≡ f x) → (xs : List A) → find f (map g xs) ≡ option_map g (find f xs)
find_same g f h [] = refl
find_same {A} g f h (x ∷ xs) = ap (λ b. cond b (Some (g x)) (find f (map g xs))) (h x) ∙ by (f x) (find_same g f h xs)
  where
    by : (b : Bool) → find f (map g xs) ≡ option_map g (find f xs) → cond b (Some (g x)) (find f (map g xs)) ≡ option_map g (cond b (Some x) (find f xs))
    by true r = refl
    by false r = r

pub any_map : {A B : Type 0} (f : B → Bool) (g : A → B) (xs : List A) → list_any f (map g xs) ≡ list_any (λ x. f (g x)) xs
any_map f g [] = refl
any_map f g (x ∷ xs) = ap (λ b. f (g x) || b) (any_map f g xs)

pub all_map : {A B : Type 0} (f : B → Bool) (g : A → B) (xs : List A) → list_all f (map g xs) ≡ list_all (λ x. f (g x)) xs
all_map f g [] = refl
all_map f g (x ∷ xs) = ap (λ b. f (g x) && b) (all_map f g xs)

pub flat_same : {A B : Type 0} (f : A → List B) (g : A → A) → ((x : A) → f (g x) ≡ f x) → (xs : List A) → flat_map f (map g xs) ≡ flat_map f xs
flat_same f g h [] = refl
flat_same f g h (x ∷ xs) = ap (λ ys. ys ++ flat_map f (map g xs)) (h x) ∙ ap (λ ys. f x ++ ys) (flat_same f g h xs)

-- a list of what is flat
pub flat_mapped : {A B : Type 0} (f : A → List B) (g : B → B) (xs : List A) → flat_map (λ x. map g (f x)) xs ≡ map g (flat_map f xs)
flat_mapped f g [] = refl
flat_mapped f g (x ∷ xs) = ap (λ ys. map g (f x) ++ ys) (flat_mapped f g xs) ∙ sym (map_append g (f x) (flat_map f xs))

-- ---- tests of all items

-- a test that follows from two
pub all_from : {A : Type 0} (f g h : A → Bool) → ((x : A) → f x ≡ true → g x ≡ true → h x ≡ true) → (xs : List A) → list_all f xs ≡ true → list_all g xs ≡ true → list_all h xs ≡ true
all_from f g h step [] d e = refl
all_from f g h step (x ∷ xs) d e = and_both (h x) (list_all h xs)
    (step x (and_left (f x) (list_all f xs) d) (and_left (g x) (list_all g xs) e))
    (all_from f g h step xs (and_right (f x) (list_all f xs) d) (and_right (g x) (list_all g xs) e))
