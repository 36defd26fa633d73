-- What is true of each entry that a loop has read.
use Rattle.std.proofs.Common.{◌≡◌, ℕ, zero, suc, ◌+◌, ◌<◌, ◌≤◌, List, [], ◌∷◌, All, take, length, get_or, Some, subst}
use Rattle.std.specs.Prelude.{slice_get}
use Rattle.std.proofs.lemmas.List.Elements.{All-head, All-more, All-tail}
use Rattle.std.proofs.lemmas.List.{take_all}

-- one more entry
pub more : {X : Type 0} (P : X → Type 0) (xs : List X) (i : ℕ) (x : X) → i < length xs → x ≡ get_or xs i x → P x → All P (take i xs) → All P (take (i + 1) xs)
more P xs i x h is here before = All-more P xs i x h before (subst P is here)

pub more_at : {X : Type 0} (P : X → Type 0) (xs : List X) (i : ℕ) (d : X) → i < length xs → P (get_or xs i d) → All P (take i xs) → All P (take (i + 1) xs)
more_at P xs i d h here before = All-more P xs i d h before here

-- all entries
pub whole : {X : Type 0} (P : X → Type 0) (xs : List X) (i : ℕ) → length xs ≤ i → All P (take i xs) → All P xs
whole P xs i h all = rw take_all at all

-- an entry by its place
pub at : {X : Type 0} (P : X → Type 0) (xs : List X) (n : ℕ) (x : X) → slice_get xs n ≡ Some x → All P xs → P x
at P [] n x e all = cc
at P (y ∷ ys) zero x e all = subst P (let s : y ≡ x = cc in s) (All-head P y ys all)
at P (y ∷ ys) (suc n) x e all = at P ys n x e (All-tail P y ys all)
