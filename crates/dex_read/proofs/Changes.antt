-- Changing one entry of a list.
use Rattle.std.proofs.Common.{◌≡◌, ℕ, zero, suc, ◌≤◌, ◌<◌, List, [], ◌∷◌, ◌++◌, length, map, slice_set, get_or, refl, ap, sym, arith}
use Rattle.dex_read.specs.Steps.{change_at}

pub changed : {X : Type 0} (change : X → X) (xs : List X) (place : ℕ) (x : X) → place < length xs → x ≡ get_or xs place x → slice_set xs place (change x) ≡ change_at change place xs
changed change [] place x lt is = absurd (omega (arith, lt))
changed change (y ∷ ys) zero x lt is = ap (λ z. change z ∷ ys) is
changed change (y ∷ ys) (suc place) x lt is = ap (λ zs. y ∷ zs) (changed change ys place x (omega (arith, lt)) is)

pub unchanged : {X : Type 0} (change : X → X) (xs : List X) (place : ℕ) → length xs ≤ place → change_at change place xs ≡ xs
unchanged change [] place le = refl
unchanged change (x ∷ xs) zero le = absurd (omega (arith, le))
unchanged change (x ∷ xs) (suc place) le = ap (λ ys. x ∷ ys) (unchanged change xs place (omega (arith, le)))

pub map_both : {X Y : Type 0} (f : X → Y) (xs ys : List X) → map f (xs ++ ys) ≡ map f xs ++ map f ys
map_both f [] ys = refl
map_both f (x ∷ xs) ys = ap (λ zs. f x ∷ zs) (map_both f xs ys)
