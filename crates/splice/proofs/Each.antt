-- A loop that changes each item of a list in place.
use Rattle.std.proofs.Common.{◌≡◌, ℕ, zero, suc, ◌+◌, ◌<◌, List, [], ◌∷◌, ◌++◌, map, take, drop, length, get_or, refl, ap, arith, add-one}
use Rattle.std.proofs.Math.ListN.{set}

set_next : {A : Type 0} (f : A → A) (xs : List A) (i : ℕ) (d : A) → i < length xs
    → set (map f (take i xs) ++ drop i xs) i (f (get_or (map f (take i xs) ++ drop i xs) i d)) ≡ map f (take (suc i) xs) ++ drop (suc i) xs
set_next f [] i d h = absurd (omega arith)
set_next f (x ∷ xs) zero d h = refl
set_next f (x ∷ xs) (suc i) d h = ap (λ l. f x ∷ l) (set_next f xs i d (omega arith))

-- the step of the loop, for a list that has come so far
pub each_more : {A : Type 0} (f : A → A) (xs ys : List A) (i : ℕ) (d y : A) → i < length xs → ys ≡ map f (take i xs) ++ drop i xs → y ≡ f (get_or ys i d)
    → set ys i y ≡ map f (take (i + 1) xs) ++ drop (i + 1) xs
each_more f xs ys i d y h e r = rw (add-one, r, e) (set_next f xs i d h)
