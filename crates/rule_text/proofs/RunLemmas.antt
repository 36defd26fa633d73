-- The run at the end of a text.
use Rattle.std.proofs.Common.{◌≡◌, ◌<◌, ◌≤◌, ◌-◌, ℕ, zero, suc, true, false, List, [], ◌∷◌, length, take, drop, slice_index_or, refl, sym, subst, arith}
use Rattle.std.specs.List.{list_all}
use Rattle.rule_text.specs.Bytes.{in_run}
use Rattle.rule_text.specs.Faults.{ends_outside}

drop_one : (n : ℕ) (text : List ℕ) → n < length text → drop n text ≡ slice_index_or text n 0 ∷ drop (suc n) text
drop_one n [] h =
    let no : ⊥ = omega arith in
    absurd no
drop_one zero (c ∷ cs) h = refl
drop_one (suc n) (c ∷ cs) h = drop_one n cs (omega arith)

longer : (n : ℕ) (text : List ℕ) → n < length text → in_run (slice_index_or text n 0) ≡ true → list_all in_run (drop (suc n) text) ≡ true → list_all in_run (drop n text) ≡ true
longer n text h e more = rw (drop_one n text h) (rw e more)

outside : (n : ℕ) (text : List ℕ) → n < length text → in_run (slice_index_or text n 0) ≡ false → ends_outside (take (suc n) text) ≡ true
outside n [] h e =
    let no : ⊥ = omega arith in
    absurd no
outside zero (c ∷ cs) h e = rw e refl
outside (suc n) (c ∷ []) h e =
    let no : ⊥ = omega arith in
    absurd no
outside (suc n) (c ∷ d ∷ ds) h e = outside n (d ∷ ds) (omega arith) e

pub run_longer : (len : ℕ) (text : List ℕ) → 0 < len → len ≤ length text → in_run (slice_index_or text (len - 1) 0) ≡ true → list_all in_run (drop len text) ≡ true → list_all in_run (drop (len - 1) text) ≡ true
run_longer len text some h e more =
    let is : len ≡ suc (len - 1) = omega arith in
    longer (len - 1) text (omega arith) e (subst (λ k. list_all in_run (drop k text) ≡ true) is more)

pub ends_there : (len : ℕ) (text : List ℕ) → 0 < len → len ≤ length text → in_run (slice_index_or text (len - 1) 0) ≡ false → ends_outside (take len text) ≡ true
ends_there len text some h e =
    let is : len ≡ suc (len - 1) = omega arith in
    subst (λ k. ends_outside (take k text) ≡ true) (sym is) (outside (len - 1) text (omega arith) e)
