-- Known bytes that several reads take, and that several writes add.
use Rattle.std.proofs.Common.{◌≡◌, ℕ, ◌+◌, ◌-◌, List, [], ◌++◌, Option, None, Some, Result, Ok, Err, IfOk, length, take, drop, refl, sym, ap, ◌∙◌, subst, drop_at, append_assoc, append-nil, take-append-drop}
use Rattle.std.proofs.lemmas.List.{take_rest, take-append-le}
use lib.Seq.{take-append_seam}
use Rattle.std.proofs.Math.Seq.{take-add}
use Rattle.std.specs.Io.{ReadsAtMost}
use Rattle.std.specs.Io.KnownBytes.{Consumes, Appends, Keeps, ReadConsumes}

pub consumes_none : (a : Option (List ℕ)) → Consumes a a []
consumes_none None = tt
consumes_none (Some x) = refl

pub consumes_both : (a b c : Option (List ℕ)) (bs cs : List ℕ) → Consumes a b bs → Consumes b c cs → Consumes a c (bs ++ cs)
consumes_both None b c bs cs p q = tt
consumes_both (Some x) None c bs cs p q = absurd p
consumes_both (Some x) (Some y) None bs cs p q = absurd q
consumes_both (Some x) (Some y) (Some z) bs cs p q = p ∙ ap (λ l. bs ++ l) q ∙ sym (append_assoc bs cs z)

pub appends_none : (a : Option (List ℕ)) → Appends a a []
appends_none None = tt
appends_none (Some x) = sym (append-nil x)

pub appends_both : (a b c : Option (List ℕ)) (bs cs : List ℕ) → Appends a b bs → Appends b c cs → Appends a c (bs ++ cs)
appends_both None b c bs cs p q = tt
appends_both (Some x) None c bs cs p q = absurd p
appends_both (Some x) (Some y) None bs cs p q = absurd q
appends_both (Some x) (Some y) (Some z) bs cs p q = q ∙ ap (λ l. l ++ cs) p ∙ append_assoc x bs cs

-- what was read into a part of the buffer stands behind its front
pub consumes_in_place : {E : Type 0} (a b : Option (List ℕ)) (r : Result ℕ E) (front part rest : List ℕ) (at : ℕ) → length front ≡ at → ReadsAtMost r part
    → ReadConsumes a b r part → IfOk r (λ n. Consumes a b (take n (drop at (front ++ (part ++ rest)))))
consumes_in_place a b (Ok n) front part rest at long fits read =
    subst (Consumes a b) (sym (ap (take n) (drop_at front (part ++ rest) at long) ∙ take-append-le n part rest fits.0)) read.0
consumes_in_place a b (Err e) front part rest at long fits read = tt

-- a buffer that was filled up to f was filled n bytes further
pub consumes_more : (a b c : Option (List ℕ)) (xs ys : List ℕ) (f n : ℕ) → take f ys ≡ take f xs
    → Consumes a b (take f xs) → Consumes b c (take n (drop f ys)) → Consumes a c (take (f + n) ys)
consumes_more a b c xs ys f n front before read =
    let joined : take f xs ++ take n (drop f ys) ≡ take (f + n) ys = ap (λ l. l ++ take n (drop f ys)) (sym front) ∙ sym (take-add f n ys) in
    subst (Consumes a c) joined (consumes_both a b c _ _ before read)

pub appends_kept : (a b c : Option (List ℕ)) (bs : List ℕ) → Appends a b bs → Keeps b c → Appends a c bs
appends_kept None b c bs p q = tt
appends_kept (Some x) None c bs p q = absurd p
appends_kept (Some x) (Some y) None bs p q = absurd q
appends_kept (Some x) (Some y) (Some z) bs p q = q ∙ p

-- what is written goes on behind what was written
pub split_more : (all done rest : List ℕ) (n : ℕ) → all ≡ done ++ rest → all ≡ (done ++ take n rest) ++ take (length rest - n) (drop n rest)
split_more all done rest n e =
    e ∙ ap (λ l. done ++ l) (sym (take-append-drop n rest)) ∙ sym (append_assoc done (take n rest) (drop n rest)) ∙ ap (λ l. (done ++ take n rest) ++ l) (sym (take_rest rest n))

-- what was written is a prefix
pub appends_prefix : (a b : Option (List ℕ)) (all done rest : List ℕ) → all ≡ done ++ rest → Appends a b done → (kept : ℕ) × Appends a b (take kept all)
appends_prefix a b all done rest e p =
    let front : done ≡ take (length done) all = sym (ap (take (length done)) e ∙ take-append_seam done rest) in
    (length done, subst (Appends a b) front p)
