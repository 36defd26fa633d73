-- Lists whose items are changed by what is at their places, one after the other.
use Rattle.std.proofs.Common.{◌≡◌, ℕ, zero, suc, ◌+◌, ◌<◌, ◌≤◌, List, [], ◌∷◌, take, length, get_or, refl, ap, ap₂, ◌∙◌, sym, arith, Some, slice_get}
use Rattle.std.proofs.Math.ListN.{set}
use Rattle.std.proofs.Math.Seq.{take-nil}
use Rattle.std.proofs.lemmas.List.{set-get_or}
use Rattle.inline_calls.specs.Edited.{each_by}

step : {A E : Type 0} (by : E → A → A) (none : E) → ((x : A) → by none x ≡ x) → (es : List E) (xs : List A) (i : ℕ) (d : A) → i < length xs
    → set (each_by by (take i es) xs) i (by (get_or es i none) (get_or (each_by by (take i es) xs) i d)) ≡ each_by by (take (suc i) es) xs
step by none stays [] xs i d lt =
    ap (λ p. set (each_by by p xs) i (by none (get_or (each_by by p xs) i d))) (take-nil i) ∙ ap (set xs i) (stays (get_or xs i d)) ∙ set-get_or xs i d
step by none stays (e ∷ es) [] i d lt = absurd (omega arith)
step by none stays (e ∷ es) (x ∷ xs) zero d lt = refl
step by none stays (e ∷ es) (x ∷ xs) (suc i) d lt = ap (λ l. by e x ∷ l) (step by none stays es xs i d (omega arith))

-- one item more
pub each_more : {A E : Type 0} (by : E → A → A) (none : E) (es : List E) (old new : List A) (i : ℕ) (d y : A) (e : E) → ((x : A) → by none x ≡ x) → i < length old → new ≡ each_by by (take i es) old
    → e ≡ get_or es i none → y ≡ by e (get_or new i d) → set new i y ≡ each_by by (take (i + 1) es) old
each_more by none es old new i d y e stays lt is at f =
    let s : i + 1 ≡ suc i = omega arith in
    ap (λ l. set l i y) is
    ∙ ap (set (each_by by (take i es) old) i) (f ∙ ap (λ k. by k (get_or new i d)) at ∙ ap (λ l. by (get_or es i none) (get_or l i d)) is)
    ∙ step by none stays es old i d lt
    ∙ ap (λ k. each_by by (take k es) old) (sym s)

same_front : {A E : Type 0} (by : E → A → A) (es : List E) (xs : List A) (i : ℕ) → length xs ≤ i → each_by by (take i es) xs ≡ each_by by es xs
same_front by [] xs i le = ap (λ p. each_by by p xs) (take-nil i)
same_front by (e ∷ es) [] zero le = refl
same_front by (e ∷ es) [] (suc i) le = refl
same_front by (e ∷ es) (x ∷ xs) zero le = absurd (omega arith)
same_front by (e ∷ es) (x ∷ xs) (suc i) le = ap (λ l. by e x ∷ l) (same_front by es xs i (omega arith))

pub each_all : {A E : Type 0} (by : E → A → A) (es : List E) (old new : List A) (i : ℕ) → length old ≤ i → new ≡ each_by by (take i es) old → new ≡ each_by by es old
each_all by es old new i le is = is ∙ same_front by es old i le

-- where nothing changes an item, the list is the same
pub each_same : {A E : Type 0} (by : E → A → A) (none : E) (es : List E) (xs : List A) → ((k : ℕ) (x : A) → slice_get xs k ≡ Some x → by (get_or es k none) x ≡ x) → each_by by es xs ≡ xs
each_same by none [] xs h = refl
each_same by none (e ∷ es) [] h = refl
each_same by none (e ∷ es) (x ∷ xs) h = ap₂ (λ y ys. y ∷ ys) (h zero x refl) (each_same by none es xs (λ k z g. h (suc k) z g))
