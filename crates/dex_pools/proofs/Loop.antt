-- Reading entries one after the other, as a loop does.
use Rattle.std.proofs.Common.{◌≡◌, ℕ, suc, ◌-◌, ◌+◌, ◌≤◌, ◌<◌, Bool, true, false, List, [], ◌∷◌, ◌++◌, Result, Ok, Err, refl, sym, ap, ◌∙◌, append_assoc, arith}
use Rattle.std.proofs.lemmas.List.{append-nil}
use Rattle.std.proofs.Math.Nat.{sub-zero}
use Rattle.dex_base.specs.Reading.{◌>>=◌, FailsIf, each}
use Rattle.dex_pools.specs.Run.{run}

-- what was read before, and what is still read
abbrev pub with_front : {X S F : Type 0} → List X → Result (List X × S) F → Result (List X × S) F
with_front front read = read >>= λ xs. Ok (front ++ xs.0, xs.1)

abbrev both : {X S F : Type 0} → List X → S → Result (List X × S) F
both xs s = Ok (xs, s)

regroup : {X S F : Type 0} (front : List X) (x : X) (read : Result (List X × S) F) → with_front front (read >>= λ xs. Ok (x ∷ xs.0, xs.1)) ≡ with_front (front ++ x ∷ []) read
regroup {S = S} {F = F} front x (Ok xs) = ap (λ ys. both {S = S} {F = F} ys xs.1) (sym (append_assoc front (x ∷ []) xs.0))
regroup front x (Err f) = refl

abbrev one : {X S F : Type 0} → X → S → Result (X × S) F
one x s = Ok (x, s)

all_of : {X S F : Type 0} (read : Result (List X × S) F) → with_front [] read ≡ read
all_of (Ok xs) = refl
all_of (Err e) = refl

-- A loop over count entries has come to this one: front is what it has found, s what it has left.
pub record Reads {X S F : Type 0} (f : ℕ → S → Result (X × S) F) (front : List X) (count i : ℕ) (s : S) (total : Result (List X × S) F) : Type 0 where
  pub so_far : with_front front (run f i (count - i) s) ≡ total

pub begins : {X S F : Type 0} (f : ℕ → S → Result (X × S) F) (front : List X) (count : ℕ) (s : S) → front ≡ [] → Reads f front count 0 s (run f 0 count s)
begins f front count s e = record { so_far = rw (e, sub-zero) (all_of (run f 0 count s)) }

pub goes_on : {X S F : Type 0} (f : ℕ → S → Result (X × S) F) (front longer : List X) (count i : ℕ) (s : S) (x : X) (t : S) (total : Result (List X × S) F)
    → Reads f front count i s total → i < count → f i s ≡ one x t → longer ≡ front ++ x ∷ [] → Reads f longer count (i + 1) t total
goes_on f front longer count i s x t total so_far lt h e =
    let k : count - i ≡ suc (count - (i + 1)) = omega arith in
    let j : i + 1 ≡ suc i = omega arith in
    let step : with_front front (run f i (count - i) s) ≡ with_front (front ++ x ∷ []) (run f (suc i) (count - (i + 1)) t) = rw (k, h) (regroup front x (run f (suc i) (count - (i + 1)) t)) in
    record { so_far = rw e (ap (λ j. with_front (front ++ x ∷ []) (run f j (count - (i + 1)) t)) j ∙ sym step ∙ so_far.so_far) }

pub ends : {X S F : Type 0} (f : ℕ → S → Result (X × S) F) (free : Bool) (e : F) (front : List X) (count i : ℕ) (s : S) (total : Result (List X × S) F)
    → Reads f front count i s total → i < count → FailsIf free e (f i s) → FailsIf free e total
ends f true e front count i s total so_far lt h = tt
ends f false e front count i s total so_far lt h =
    let k : count - i ≡ suc (count - (i + 1)) = omega arith in
    let step : with_front front (run f i (count - i) s) ≡ Err e = rw (k, h) refl in
    sym so_far.so_far ∙ step

pub is_done : {X S F : Type 0} (f : ℕ → S → Result (X × S) F) (front : List X) (count i : ℕ) (s : S) (total : Result (List X × S) F)
    → Reads f front count i s total → count ≤ i → total ≡ both front s
is_done {S = S} {F = F} f front count i s total so_far le =
    let k : count - i ≡ 0 = omega arith in
    let step : with_front front (run f i (count - i) s) ≡ both front s = rw k (ap (λ xs. both {S = S} {F = F} xs s) (append-nil front)) in
    sym so_far.so_far ∙ step

-- ---- the same where nothing is handed on

-- what was read before, and what is still read
abbrev pub behind : {X F : Type 0} → List X → Result (List X) F → Result (List X) F
behind front read = read >>= λ xs. Ok (front ++ xs)

behind_one : {X F : Type 0} (front : List X) (x : X) (read : Result (List X) F) → behind front (read >>= λ xs. Ok (x ∷ xs)) ≡ behind (front ++ x ∷ []) read
behind_one front x (Ok xs) = ap Ok (sym (append_assoc front (x ∷ []) xs))
behind_one front x (Err f) = refl

behind_none : {X F : Type 0} (read : Result (List X) F) → behind [] read ≡ read
behind_none (Ok xs) = refl
behind_none (Err e) = refl

pub record ReadsEach {X F : Type 0} (f : ℕ → Result X F) (front : List X) (count i : ℕ) (total : Result (List X) F) : Type 0 where
  pub so_far : behind front (each f i (count - i)) ≡ total

pub each_begins : {X F : Type 0} (f : ℕ → Result X F) (front : List X) (count : ℕ) → front ≡ [] → ReadsEach f front count 0 (each f 0 count)
each_begins f front count e = record { so_far = rw (e, sub-zero) (behind_none (each f 0 count)) }

pub each_goes_on : {X F : Type 0} (f : ℕ → Result X F) (front longer : List X) (count i : ℕ) (x : X) (total : Result (List X) F)
    → ReadsEach f front count i total → i < count → f i ≡ Ok x → longer ≡ front ++ x ∷ [] → ReadsEach f longer count (i + 1) total
each_goes_on f front longer count i x total so_far lt h e =
    let k : count - i ≡ suc (count - (i + 1)) = omega arith in
    let j : i + 1 ≡ suc i = omega arith in
    let step : behind front (each f i (count - i)) ≡ behind (front ++ x ∷ []) (each f (suc i) (count - (i + 1))) = rw (k, h) (behind_one front x (each f (suc i) (count - (i + 1)))) in
    record { so_far = rw e (ap (λ j. behind (front ++ x ∷ []) (each f j (count - (i + 1)))) j ∙ sym step ∙ so_far.so_far) }

pub each_ends : {X F : Type 0} (f : ℕ → Result X F) (free : Bool) (e : F) (front : List X) (count i : ℕ) (total : Result (List X) F)
    → ReadsEach f front count i total → i < count → FailsIf free e (f i) → FailsIf free e total
each_ends f true e front count i total so_far lt h = tt
each_ends f false e front count i total so_far lt h =
    let k : count - i ≡ suc (count - (i + 1)) = omega arith in
    let step : behind front (each f i (count - i)) ≡ Err e = rw (k, h) refl in
    sym so_far.so_far ∙ step

pub each_is_done : {X F : Type 0} (f : ℕ → Result X F) (front : List X) (count i : ℕ) (total : Result (List X) F)
    → ReadsEach f front count i total → count ≤ i → total ≡ Ok front
each_is_done f front count i total so_far le =
    let k : count - i ≡ 0 = omega arith in
    let step : behind front (each f i (count - i)) ≡ Ok front = rw k (ap Ok (append-nil front)) in
    sym so_far.so_far ∙ step
