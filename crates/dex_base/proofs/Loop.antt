-- Reading entries one after the other, as a loop does.
use Rattle.std.proofs.Common.{◌≡◌, Bool, true, false, ℕ, suc, ◌-◌, ◌+◌, ◌≤◌, ◌<◌, List, [], ◌∷◌, ◌++◌, Result, Ok, Err, refl, sym, ap, ◌∙◌, append_assoc, arith}
use Rattle.std.proofs.lemmas.List.{append-nil}
use Rattle.dex_base.specs.Reading.{◌>>=◌, FailsIf, raise, each, chain}

-- a fault of the reading, whether it is free or not
pub fails_known : {Y F : Type 0} (free : Bool) (e : F) (read : Result Y F) → read ≡ Err e → FailsIf free e read
fails_known true e read h = tt
fails_known false e read h = h

-- a fault of a layer below, in the words of this one
pub fails_raised : {Y F G : Type 0} (free : Bool) (up : F → G) (e : F) (read : Result Y F) → Err e ≡ read → FailsIf free (up e) (raise up read)
fails_raised free up e read h = fails_known free (up e) (raise up read) (ap (raise up) (sym h))

-- what was read before, and what is still read
abbrev pub with_front : {X F : Type 0} → List X → Result (List X) F → Result (List X) F
with_front front read = read >>= λ xs. Ok (front ++ xs)

regroup : {X F : Type 0} (front : List X) (x : X) (read : Result (List X) F) → with_front front (read >>= λ xs. Ok (x ∷ xs)) ≡ with_front (front ++ x ∷ []) read
regroup front x (Ok xs) = ap Ok (sym (append_assoc front (x ∷ []) xs))
regroup front x (Err f) = refl

pub goes_on : {X F : Type 0} (f : ℕ → Result X F) (front : List X) (count i : ℕ) (x : X) (total : Result (List X) F) → i < count → f i ≡ Ok x
    → with_front front (each f i (count - i)) ≡ total → with_front (front ++ x ∷ []) (each f (i + 1) (count - (i + 1))) ≡ total
goes_on f front count i x total lt h so_far =
    let k : count - i ≡ suc (count - (i + 1)) = omega arith in
    let s : i + 1 ≡ suc i = omega arith in
    let one : with_front front (each f i (count - i)) ≡ with_front (front ++ x ∷ []) (each f (suc i) (count - (i + 1))) = rw (k, h) (regroup front x (each f (suc i) (count - (i + 1)))) in
    ap (λ j. with_front (front ++ x ∷ []) (each f j (count - (i + 1)))) s ∙ sym one ∙ so_far

pub ends : {X F : Type 0} (f : ℕ → Result X F) (free : Bool) (e : F) (front : List X) (count i : ℕ) (total : Result (List X) F) → i < count → FailsIf free e (f i)
    → with_front front (each f i (count - i)) ≡ total → FailsIf free e total
ends f true e front count i total lt h so_far = tt
ends f false e front count i total lt h so_far =
    let k : count - i ≡ suc (count - (i + 1)) = omega arith in
    let one : with_front front (each f i (count - i)) ≡ Err e = rw (k, h) refl in
    sym so_far ∙ one

pub is_done : {X F : Type 0} (f : ℕ → Result X F) (front : List X) (count i : ℕ) (total : Result (List X) F) → count ≤ i → with_front front (each f i (count - i)) ≡ total → total ≡ Ok front
is_done f front count i total le so_far =
    let k : count - i ≡ 0 = omega arith in
    let one : with_front front (each f i (count - i)) ≡ Ok front = rw k (ap Ok (append-nil front)) in
    sym so_far ∙ one

-- ---- items one behind another

-- the items read before, and those still to be read
abbrev pub with_items : {X F : Type 0} → List X → Result (List X × ℕ) F → Result (List X × ℕ) F
with_items front read = read >>= λ r. Ok (front ++ r.0, r.1)

regroup_chain : {X F : Type 0} (front : List X) (x : X) (read : Result (List X × ℕ) F) → with_items front (read >>= λ r. Ok (x ∷ r.0, r.1)) ≡ with_items (front ++ x ∷ []) read
regroup_chain front x (Ok r) = ap (λ xs. Ok (xs, r.1)) (sym (append_assoc front (x ∷ []) r.0))
regroup_chain front x (Err f) = refl

pub chain_goes_on : {X F : Type 0} (f : ℕ → Result (X × ℕ) F) (front : List X) (count i at stop : ℕ) (x : X) (total : Result (List X × ℕ) F) → i < count → f at ≡ Ok (x, stop)
    → with_items front (chain f (count - i) at) ≡ total → with_items (front ++ x ∷ []) (chain f (count - (i + 1)) stop) ≡ total
chain_goes_on f front count i at stop x total lt h so_far =
    let k : count - i ≡ suc (count - (i + 1)) = omega arith in
    let one : with_items front (chain f (count - i) at) ≡ with_items (front ++ x ∷ []) (chain f (count - (i + 1)) stop) = rw (k, h) (regroup_chain front x (chain f (count - (i + 1)) stop)) in
    sym one ∙ so_far

pub chain_ends : {X F : Type 0} (f : ℕ → Result (X × ℕ) F) (free : Bool) (e : F) (front : List X) (count i at : ℕ) (total : Result (List X × ℕ) F) → i < count → FailsIf free e (f at)
    → with_items front (chain f (count - i) at) ≡ total → FailsIf free e total
chain_ends f true e front count i at total lt h so_far = tt
chain_ends f false e front count i at total lt h so_far =
    let k : count - i ≡ suc (count - (i + 1)) = omega arith in
    let one : with_items front (chain f (count - i) at) ≡ Err e = rw (k, h) refl in
    sym so_far ∙ one

pub chain_is_done : {X F : Type 0} (f : ℕ → Result (X × ℕ) F) (front : List X) (count i at : ℕ) (total : Result (List X × ℕ) F) → count ≤ i → with_items front (chain f (count - i) at) ≡ total → total ≡ Ok (front, at)
chain_is_done f front count i at total le so_far =
    let k : count - i ≡ 0 = omega arith in
    let one : with_items front (chain f (count - i) at) ≡ Ok (front, at) = rw k (ap (λ xs. Ok (xs, at)) (append-nil front)) in
    sym so_far ∙ one
