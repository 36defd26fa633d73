-- One item more of which something holds.
use Rattle.std.proofs.Common.{◌≡◌, ℕ, zero, suc, ◌+◌, ◌<◌, List, [], ◌∷◌, length, take, get_or, sym, subst, arith, not-suc-le-zero, le_of_suc-le-suc}
use Rattle.std.specs.List.{AllByRecursion}

next : {X : Type 0} (P : X → Type 0) (xs : List X) (i : ℕ) (x : X) → i < length xs → x ≡ get_or xs i x → AllByRecursion P (take i xs) → P x → AllByRecursion P (take (suc i) xs)
next P [] i x lt is before here = absurd (not-suc-le-zero lt)
next P (y ∷ xs) zero x lt is before here = (subst P is here, tt)
next P (y ∷ xs) (suc i) x lt is before here = (before.0, next P xs i x (le_of_suc-le-suc lt) is before.1 here)

pub more : {X : Type 0} (P : X → Type 0) (xs : List X) (i : ℕ) (x : X) → i < length xs → x ≡ get_or xs i x → AllByRecursion P (take i xs) → P x → AllByRecursion P (take (i + 1) xs)
more P xs i x lt is before here = let e : i + 1 ≡ suc i = omega arith in rw e (next P xs i x lt is before here)
