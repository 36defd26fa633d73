-- Counts of what changes.
use Rattle.std.proofs.Common.{◌≡◌, ℕ, suc, ◌+◌, ◌-◌, ◌<◌, ◌≤◌, ◌^◌, min, List, [], ◌∷◌, ◌++◌, map, take, drop, length, get_or, refl, sym, ap, ◌∙◌, arith}
use Rattle.std.specs.Prelude.{sum_by}
use Rattle.std.proofs.lemmas.List.Sums.{sum_by_more}
use Rattle.program_model.specs.Cells.{capped}

caps : (a b g r : ℕ) → g ≡ capped a → r ≡ capped b → min (g + r) (2 ^ 64 - 1) ≡ capped (a + b)
caps a b g r e f = omega arith

within : (a b g r : ℕ) → g ≡ capped a → r ≡ b → min (g + r) (2 ^ 64 - 1) ≡ capped (a + b)
within a b g r e f = omega arith

-- one more of a sum
pub counted : {A : Type 0} (g : A → ℕ) (xs : List A) (i : ℕ) (d : A) (total r : ℕ) → i < length xs → total ≡ capped (sum_by g (take i xs)) → r ≡ capped (g (get_or xs i d)) → min (total + r) (2 ^ 64 - 1) ≡ capped (sum_by g (take (i + 1) xs))
counted g xs i d total r h t k = caps (sum_by g (take i xs)) (g (get_or xs i d)) total r t k ∙ ap capped (sym (sum_by_more g xs i d h))

-- the same, where what is added is no more than 64 bits hold
pub counted_all : {A : Type 0} (g : A → ℕ) (xs : List A) (i : ℕ) (d : A) (total r : ℕ) → i < length xs → total ≡ capped (sum_by g (take i xs)) → r ≡ g (get_or xs i d) → min (total + r) (2 ^ 64 - 1) ≡ capped (sum_by g (take (i + 1) xs))
counted_all g xs i d total r h t k = within (sum_by g (take i xs)) (g (get_or xs i d)) total r t k ∙ ap capped (sym (sum_by_more g xs i d h))
