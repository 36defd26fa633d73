-- Counts of copies.
use Rattle.std.proofs.Common.{◌≡◌, ◌≤◌, ◌+◌, ℕ, zero, suc, Bool, List, [], ◌∷◌, length, drop, refl, ap, arith}
use Rattle.std.specs.Prelude.{sum_by}
use Rattle.insn_set.specs.declared.form.Insn.{Insn}
use Rattle.splice.specs.Shifted.{word}
use Rattle.splice.specs.Places.{copy_size}

no_rest : {A : Type 0} (xs : List A) (i : ℕ) → length xs ≤ i → drop i xs ≡ []
no_rest [] zero le = refl
no_rest [] (suc i) le = refl
no_rest (x ∷ xs) zero le = absurd (omega (arith, le))
no_rest (x ∷ xs) (suc i) le = no_rest xs i (omega (arith, le))

-- the count of all, once nothing is left
pub size_done : (taken : Bool) (is : List Insn) (i size whole : ℕ) → length is ≤ i → size ≤ 4294967295
    → word (size + sum_by (copy_size taken) (drop i is)) ≡ whole → size ≡ whole
size_done taken is i size whole le bound e =
    let none : sum_by (copy_size taken) (drop i is) ≡ 0 = ap (sum_by (copy_size taken)) (no_rest is i le) in
    omega (arith, none, bound, e)
