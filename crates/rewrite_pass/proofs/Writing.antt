-- Lists whose items are written over, one after the other.
use Rattle.std.proofs.Common.{◌≡◌, ℕ, zero, suc, ◌+◌, ◌<◌, ◌≤◌, List, [], ◌∷◌, ◌++◌, take, drop, length, get_or, refl, sym, ap, ◌∙◌, subst, arith, add-one}
use Rattle.std.proofs.Math.ListN.{set}
use Rattle.std.proofs.Math.Seq.{take-nil}
use Rattle.std.proofs.lemmas.List.{take_more, take_all, set-get_or}
use Rattle.insn_set.specs.declared.form.Insn.{Insn}
use Rattle.rewrite_pass.specs.declared.edit.Edit.{Edit}
use Rattle.rewrite_pass.specs.Plans.{edited, each_by}

step : {A E : Type 0} (by : List E → A → A) → ((x : A) → by [] x ≡ x) → (plan : List (List E)) (xs : List A) (i : ℕ) (d : A) → i < length xs
    → set (each_by by (take i plan) xs) i (by (get_or plan i []) (get_or (each_by by (take i plan) xs) i d)) ≡ each_by by (take (suc i) plan) xs
step by none [] xs i d lt =
    ap (λ p. set (each_by by p xs) i (by [] (get_or (each_by by p xs) i d))) (take-nil i) ∙ ap (set xs i) (none (get_or xs i d)) ∙ set-get_or xs i d
step by none (es ∷ plan) [] i d lt = absurd (omega arith)
step by none (es ∷ plan) (x ∷ xs) zero d lt = refl
step by none (es ∷ plan) (x ∷ xs) (suc i) d lt = ap (λ l. by es x ∷ l) (step by none plan xs i d (omega arith))

-- one item more
pub each_more : {A E : Type 0} (by : List E → A → A) (plan : List (List E)) (old new : List A) (i : ℕ) (d y : A) (es : List E) → ((x : A) → by [] x ≡ x) → i < length old → new ≡ each_by by (take i plan) old
    → es ≡ get_or plan i [] → y ≡ by es (get_or new i d) → set new i y ≡ each_by by (take (i + 1) plan) old
each_more by plan old new i d y es none lt is e f =
    let s : i + 1 ≡ suc i = omega arith in
    ap (λ l. set l i y) is
    ∙ ap (set (each_by by (take i plan) old) i) (f ∙ ap (λ k. by k (get_or new i d)) e ∙ ap (λ l. by (get_or plan i []) (get_or l i d)) is)
    ∙ step by none plan old i d lt
    ∙ ap (λ k. each_by by (take k plan) old) (sym s)

same_front : {A E : Type 0} (by : List E → A → A) → ((x : A) → by [] x ≡ x) → (plan : List (List E)) (xs : List A) (i : ℕ) → length xs ≤ i → each_by by (take i plan) xs ≡ each_by by plan xs
same_front by none [] xs i le = ap (λ p. each_by by p xs) (take-nil i)
same_front by none (es ∷ plan) [] zero le = refl
same_front by none (es ∷ plan) [] (suc i) le = refl
same_front by none (es ∷ plan) (x ∷ xs) zero le = absurd (omega arith)
same_front by none (es ∷ plan) (x ∷ xs) (suc i) le = ap (λ l. by es x ∷ l) (same_front by none plan xs i (omega arith))

pub each_all : {A E : Type 0} (by : List E → A → A) (plan : List (List E)) (old new : List A) (i : ℕ) → ((x : A) → by [] x ≡ x) → length old ≤ i → new ≡ each_by by (take i plan) old → new ≡ each_by by plan old
each_all by plan old new i none le is = is ∙ same_front by none plan old i le

pub each_long : {A E : Type 0} (by : List E → A → A) (plan : List (List E)) (xs : List A) → length (each_by by plan xs) ≡ length xs
each_long by [] xs = refl
each_long by (es ∷ plan) [] = refl
each_long by (es ∷ plan) (x ∷ xs) = ap suc (each_long by plan xs)

-- ---- instructions

pub edited_behind : (es fs : List Edit) (is : List Insn) → edited (es ++ fs) is ≡ edited fs (edited es is)
edited_behind [] fs is = refl
edited_behind (e ∷ es) fs is = edited_behind es fs (edited (e ∷ []) is)

pub edited_more : (es : List Edit) (old new next : List Insn) (i : ℕ) (e : Edit) → i < length es → new ≡ edited (take i es) old → next ≡ edited (get_or es i e ∷ []) new → next ≡ edited (take (i + 1) es) old
edited_more es old new next i e lt is f =
    f ∙ ap (edited (get_or es i e ∷ [])) is ∙ sym (edited_behind (take i es) (get_or es i e ∷ []) old) ∙ ap (λ l. edited l old) (sym (take_more es i e lt))

pub edited_all : (es : List Edit) (old new : List Insn) (i : ℕ) → length es ≤ i → new ≡ edited (take i es) old → new ≡ edited es old
edited_all es old new i le is = is ∙ ap (λ l. edited l old) (take_all i es le)
