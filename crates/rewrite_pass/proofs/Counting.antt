-- Counts of what is written.
use Rattle.std.proofs.Common.{◌≡◌, ℕ, suc, ◌+◌, ◌-◌, ◌<◌, ◌≤◌, ◌^◌, min, List, [], ◌∷◌, ◌++◌, take, length, get_or, refl, sym, ap, ap₂, ◌∙◌, arith}
use Rattle.std.specs.Prelude.{sum_by}
use Rattle.std.proofs.lemmas.List.Sums.{sum_by_more, sum_by-cons}
use Rattle.program_model.specs.Cells.{capped}
use Rattle.program_model.specs.declared.program.Class.{Class}
use Rattle.program_model.specs.declared.program.Program.{Program}
use Rattle.rewrite_pass.specs.declared.edit.Edit.{Edit}
use Rattle.rewrite_pass.specs.Plans.{all_edits, class_edits, method_by, methods_by, class_by, classes_by, program_by}
use Rattle.program_model.specs.declared.program.Method.{Method}

caps : (a b g r : ℕ) → g ≡ capped a → r ≡ capped b → min (g + r) (2 ^ 64 - 1) ≡ capped (a + b)
caps a b g r e f = omega arith

within : (a b g r : ℕ) → g ≡ capped a → r ≡ b → min (g + r) (2 ^ 64 - 1) ≡ capped (a + b)
within a b g r e f = omega arith

-- one more of a sum
pub counted : {A : Type 0} (g : A → ℕ) (xs : List A) (i : ℕ) (d : A) (total r : ℕ) → i < length xs → total ≡ capped (sum_by g (take i xs)) → r ≡ capped (g (get_or xs i d)) → min (total + r) (2 ^ 64 - 1) ≡ capped (sum_by g (take (i + 1) xs))
counted g xs i d total r h t k = caps (sum_by g (take i xs)) (g (get_or xs i d)) total r t k ∙ ap capped (sym (sum_by_more g xs i d h))

-- the same, where what is added is no more than 64 bits hold
pub counted_all : {A : Type 0} (g : A → ℕ) (xs : List A) (i : ℕ) (d : A) (total r : ℕ) → i < length xs → total ≡ capped (sum_by g (take i xs)) → r ≡ g (get_or xs i d) → min (total + r) (2 ^ 64 - 1) ≡ capped (sum_by g (take (i + 1) xs))
counted_all g xs i d total r h t k = within (sum_by g (take i xs)) (g (get_or xs i d)) total r t k ∙ ap capped (sym (sum_by_more g xs i d h))

-- ---- where nothing is written

no_method : (plan : List (List Edit)) (ms : List Method) → class_edits plan ≡ 0 → methods_by plan ms ≡ ms
no_method [] ms e = refl
no_method (es ∷ plan) [] e = refl
no_method ([] ∷ plan) (m ∷ ms) e = ap (λ l. m ∷ l) (no_method plan ms (omega (arith, sum_by-cons (λ (l : List Edit). length l) [] plan, e)))
no_method ((x ∷ es) ∷ plan) (m ∷ ms) e = absurd (omega (arith, sum_by-cons (λ (l : List Edit). length l) (x ∷ es) plan, e))

no_class : (ps : List (List Edit)) (c : Class) → class_edits ps ≡ 0 → class_by ps c ≡ c
no_class ps c e = ap (λ ms. record c { methods = ms }) (no_method ps c.methods e)

no_classes : (plan : List (List (List Edit))) (cs : List Class) → all_edits plan ≡ 0 → classes_by plan cs ≡ cs
no_classes [] cs e = refl
no_classes (ps ∷ plan) [] e = refl
no_classes (ps ∷ plan) (c ∷ cs) e =
    let s : class_edits ps + all_edits plan ≡ 0 = sym (sum_by-cons class_edits ps plan) ∙ e in
    ap₂ (λ d l. d ∷ l) (no_class ps c (omega arith)) (no_classes plan cs (omega arith))

-- where nothing is counted, the program stays
pub none_written : (plan : List (List (List Edit))) (p : Program) (count : ℕ) → count ≡ capped (all_edits plan) → count ≡ 0 → program_by plan p ≡ p
none_written plan p count e z = ap (λ cs. record p { classes = cs }) (no_classes plan p.classes (omega (arith, e, z)))
