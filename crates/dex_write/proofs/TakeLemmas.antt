-- One item more of a list.
use Rattle.std.proofs.Common.{◌≡◌, ℕ, zero, suc, ◌+◌, ◌<◌, ◌≤◌, List, [], ◌∷◌, ◌++◌, length, take, drop, get_or, refl, sym, ap, arith, not-suc-le-zero, le_of_suc-le-suc}

take_next : {X : Type 0} (xs : List X) (i : ℕ) (x : X) → i < length xs → x ≡ get_or xs i x → take (suc i) xs ≡ take i xs ++ x ∷ []
take_next [] i x lt is = absurd (not-suc-le-zero lt)
take_next {X} (y ∷ xs) zero x lt is = ap (λ (z : X). z ∷ []) (sym is)
take_next {X} (y ∷ xs) (suc i) x lt is = ap (λ (l : List X). y ∷ l) (take_next xs i x (le_of_suc-le-suc lt) is)

pub take_one : {X : Type 0} (xs : List X) (i : ℕ) (x : X) → i < length xs → x ≡ get_or xs i x → take (i + 1) xs ≡ take i xs ++ x ∷ []
take_one xs i x lt is = let e : i + 1 ≡ suc i = omega arith in rw e (take_next xs i x lt is)

drop_next : {X : Type 0} (xs : List X) (i : ℕ) (x : X) → i < length xs → x ≡ get_or xs i x → drop i xs ≡ x ∷ drop (suc i) xs
drop_next [] i x lt is = absurd (not-suc-le-zero lt)
drop_next {X} (y ∷ xs) zero x lt is = ap (λ (z : X). z ∷ xs) (sym is)
drop_next (y ∷ xs) (suc i) x lt is = drop_next xs i x (le_of_suc-le-suc lt) is

pub drop_one : {X : Type 0} (xs : List X) (i : ℕ) (x : X) → i < length xs → x ≡ get_or xs i x → drop i xs ≡ x ∷ drop (i + 1) xs
drop_one xs i x lt is = let e : i + 1 ≡ suc i = omega arith in rw e (drop_next xs i x lt is)

other : {X : Type 0} (xs : List X) (i : ℕ) (d e : X) → i < length xs → get_or xs i d ≡ get_or xs i e
other [] i d e lt = absurd (not-suc-le-zero lt)
other (y ∷ xs) zero d e lt = refl
other (y ∷ xs) (suc i) d e lt = other xs i d e (le_of_suc-le-suc lt)

-- an item by whatever default
pub by_itself : {X : Type 0} (xs : List X) (i : ℕ) (d : X) → i < length xs → get_or xs i d ≡ get_or xs i (get_or xs i d)
by_itself xs i d lt = other xs i d (get_or xs i d) lt

pub drop_past : {X : Type 0} (xs : List X) (i : ℕ) → length xs ≤ i → drop i xs ≡ []
drop_past [] zero le = refl
drop_past [] (suc i) le = refl
drop_past (x ∷ xs) zero le = absurd (not-suc-le-zero le)
drop_past (x ∷ xs) (suc i) le = drop_past xs i (le_of_suc-le-suc le)
