-- Steps one after the other, and readings for each entry of a list, as loops do them.
use Rattle.std.proofs.Common.{◌≡◌, Bool, true, false, ℕ, zero, suc, ◌-◌, ◌+◌, ◌≤◌, ◌<◌, List, [], ◌∷◌, ◌++◌, length, drop, get_or, Result, Ok, Err, refl, sym, ap, ◌∙◌, append_assoc, drop-cons, arith}
use Rattle.std.proofs.lemmas.List.{append-nil}
use Rattle.std.proofs.Math.Nat.{sub-zero}
use Rattle.std.proofs.Math.ListN.{drop_of_length-le}
use Rattle.dex_base.specs.Reading.{◌>>=◌, FailsIf}
use Rattle.dex_read.specs.Steps.{steps, for_each, behind}

-- ---- steps: a loop over count of them has come to this one, and what it changes is as it is by then

pub record Goes {S F : Type 0} (f : ℕ → S → Result S F) (count i : ℕ) (s : S) (total : Result S F) : Type 0 where
  pub so_far : steps f i (count - i) s ≡ total

pub steps_begin : {S F : Type 0} (f : ℕ → S → Result S F) (count : ℕ) (s : S) → Goes f count 0 s (steps f 0 count s)
steps_begin f count s = record { so_far = rw sub-zero refl }

pub steps_go_on : {S F : Type 0} (f : ℕ → S → Result S F) (count i : ℕ) (s t : S) (total : Result S F)
    → Goes f count i s total → i < count → f i s ≡ Ok t → Goes f count (i + 1) t total
steps_go_on f count i s t total so_far lt h =
    let k : count - i ≡ suc (count - (i + 1)) = omega arith in
    let j : i + 1 ≡ suc i = omega arith in
    let step : steps f i (count - i) s ≡ steps f (suc i) (count - (i + 1)) t = rw (k, h) refl in
    record { so_far = ap (λ j. steps f j (count - (i + 1)) t) j ∙ sym step ∙ so_far.so_far }

pub steps_fail : {S F : Type 0} (f : ℕ → S → Result S F) (free : Bool) (e : F) (count i : ℕ) (s : S) (total : Result S F)
    → Goes f count i s total → i < count → FailsIf free e (f i s) → FailsIf free e total
steps_fail f true e count i s total so_far lt h = tt
steps_fail f false e count i s total so_far lt h =
    let k : count - i ≡ suc (count - (i + 1)) = omega arith in
    let step : steps f i (count - i) s ≡ Err e = rw (k, h) refl in
    sym so_far.so_far ∙ step

abbrev done : {S F : Type 0} → S → Result S F
done s = Ok s

pub steps_done : {S F : Type 0} (f : ℕ → S → Result S F) (count i : ℕ) (s : S) (total : Result S F)
    → Goes f count i s total → count ≤ i → total ≡ done s
steps_done f count i s total so_far le =
    let k : count - i ≡ 0 = omega arith in
    let step : steps f i (count - i) s ≡ done s = rw k refl in
    sym so_far.so_far ∙ step

-- ---- for each entry of a list: a loop has come to this place of it

abbrev both : {X S F : Type 0} → List X → S → Result (List X × S) F
both xs s = Ok (xs, s)

regroup : {Y S F : Type 0} (front : List Y) (y : Y) (read : Result (List Y × S) F) → behind front (read >>= λ ys. Ok (y ∷ ys.0, ys.1)) ≡ behind (front ++ y ∷ []) read
regroup {S = S} {F = F} front y (Ok ys) = ap (λ zs. both {S = S} {F = F} zs ys.1) (sym (append_assoc front (y ∷ []) ys.0))
regroup front y (Err e) = refl

pub record Reads {X Y S F : Type 0} (f : X → S → Result (Y × S) F) (front : List Y) (xs : List X) (i : ℕ) (s : S) (total : Result (List Y × S) F) : Type 0 where
  pub so_far : behind front (for_each f (drop i xs) s) ≡ total

pub begins : {X Y S F : Type 0} (f : X → S → Result (Y × S) F) (front : List Y) (xs : List X) (s : S) → Reads f front xs 0 s (behind front (for_each f xs s))
begins f front xs s = record { so_far = refl }

abbrev one : {Y S F : Type 0} → Y → S → Result (Y × S) F
one y s = Ok (y, s)

next_entry : {X : Type 0} (xs : List X) (i : ℕ) (x : X) → i < length xs → x ≡ get_or xs i x → drop i xs ≡ x ∷ drop (i + 1) xs
next_entry xs i x lt is =
    let j : suc i ≡ i + 1 = omega arith in
    drop-cons xs i x lt ∙ ap (λ y. y ∷ drop (suc i) xs) (sym is) ∙ ap (λ k. x ∷ drop k xs) j

pub goes_on : {X Y S F : Type 0} (f : X → S → Result (Y × S) F) (front longer : List Y) (xs : List X) (i : ℕ) (s : S) (x : X) (y : Y) (t : S) (total : Result (List Y × S) F)
    → Reads f front xs i s total → i < length xs → x ≡ get_or xs i x → f x s ≡ one y t → longer ≡ front ++ y ∷ [] → Reads f longer xs (i + 1) t total
goes_on f front longer xs i s x y t total so_far lt is h e =
    let d = next_entry xs i x lt is in
    let step : behind front (for_each f (drop i xs) s) ≡ behind (front ++ y ∷ []) (for_each f (drop (i + 1) xs) t) = rw (d, h) (regroup front y (for_each f (drop (i + 1) xs) t)) in
    record { so_far = rw e (sym step ∙ so_far.so_far) }

pub fails : {X Y S F : Type 0} (f : X → S → Result (Y × S) F) (free : Bool) (e : F) (front : List Y) (xs : List X) (i : ℕ) (s : S) (x : X) (total : Result (List Y × S) F)
    → Reads f front xs i s total → i < length xs → x ≡ get_or xs i x → FailsIf free e (f x s) → FailsIf free e total
fails f true e front xs i s x total so_far lt is h = tt
fails f false e front xs i s x total so_far lt is h =
    let d = next_entry xs i x lt is in
    let step : behind front (for_each f (drop i xs) s) ≡ Err e = rw (d, h) refl in
    sym so_far.so_far ∙ step

pub is_done : {X Y S F : Type 0} (f : X → S → Result (Y × S) F) (front : List Y) (xs : List X) (i : ℕ) (s : S) (total : Result (List Y × S) F)
    → Reads f front xs i s total → length xs ≤ i → total ≡ both front s
is_done {S = S} {F = F} f front xs i s total so_far le =
    let d : drop i xs ≡ [] = drop_of_length-le xs le in
    let step : behind front (for_each f (drop i xs) s) ≡ both front s = rw d (ap (λ ys. both {S = S} {F = F} ys s) (append-nil front)) in
    sym so_far.so_far ∙ step

-- ---- the entries of two lists, one behind the other

none_behind : {Y S F : Type 0} (read : Result (List Y × S) F) → behind [] read ≡ read
none_behind (Ok r) = refl
none_behind (Err e) = refl

abbrev cons : {Y S F : Type 0} → Y → Result (List Y × S) F → Result (List Y × S) F
cons y read = read >>= λ ys. Ok (y ∷ ys.0, ys.1)

cons_behind : {Y S F : Type 0} (y : Y) (front : List Y) (read : Result (List Y × S) F) → cons y (behind front read) ≡ behind (y ∷ front) read
cons_behind y front (Ok r) = refl
cons_behind y front (Err e) = refl

cons_both : {Y S F : Type 0} (y : Y) (g : S → Result (List Y × S) F) (read : Result (List Y × S) F)
    → cons y (read >>= λ r. behind r.0 (g r.1)) ≡ (cons y read >>= λ r. behind r.0 (g r.1))
cons_both y g (Ok r) = cons_behind y r.0 (g r.1)
cons_both y g (Err e) = refl

both_of : {X Y S F : Type 0} (f : X → S → Result (Y × S) F) (xs ys : List X) (read : Result (Y × S) F)
    → ((t : S) → for_each f (xs ++ ys) t ≡ (for_each f xs t >>= λ r. behind r.0 (for_each f ys r.1)))
    → (read >>= λ y. cons y.0 (for_each f (xs ++ ys) y.1)) ≡ ((read >>= λ y. cons y.0 (for_each f xs y.1)) >>= λ r. behind r.0 (for_each f ys r.1))
both_of f xs ys (Ok y) h = ap (cons y.0) (h y.1) ∙ cons_both y.0 (λ t. for_each f ys t) (for_each f xs y.1)
both_of f xs ys (Err e) h = refl

pub for_both : {X Y S F : Type 0} (f : X → S → Result (Y × S) F) (xs ys : List X) (s : S)
    → for_each f (xs ++ ys) s ≡ (for_each f xs s >>= λ r. behind r.0 (for_each f ys r.1))
for_both f [] ys s = sym (none_behind (for_each f ys s))
for_both f (x ∷ xs) ys s = both_of f xs ys (f x s) (λ t. for_both f xs ys t)

-- the fault of the second list, where the first one was read
pub both_fail : {X Y S F : Type 0} (f : X → S → Result (Y × S) F) (xs ys : List X) (s : S) (start front : List Y) (t : S) (free : Bool) (e : F)
    → start ≡ [] → behind start (for_each f xs s) ≡ both front t → FailsIf free e (behind front (for_each f ys t)) → FailsIf free e (for_each f (xs ++ ys) s)
both_fail f xs ys s start front t true e is h g = tt
both_fail {Y = Y} {S = S} {F = F} f xs ys s start front t false e is h g =
    let first : for_each f xs s ≡ both front t = sym (none_behind (for_each f xs s)) ∙ ap (λ (ys : List Y). behind ys (for_each f xs s)) (sym is) ∙ h in
    for_both f xs ys s ∙ ap (λ (r : Result (List Y × S) F). r >>= λ q. behind q.0 (for_each f ys q.1)) first ∙ g
