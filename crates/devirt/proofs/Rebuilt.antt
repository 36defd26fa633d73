-- A body over which is written what its calls are bound to, instruction by instruction.
use Rattle.std.proofs.Common.{◌≡◌, ℕ, zero, suc, ◌+◌, ◌<◌, ◌≤◌, List, [], ◌∷◌, ◌++◌, length, Option, Some, None, refl, sym, ap, ◌∙◌, arith, append_assoc}
use Rattle.std.specs.Prelude.{slice_set}
use Rattle.insn_set.specs.declared.ops.InvokeKind.{InvokeKind}
use Rattle.insn_set.specs.declared.form.Insn.{Insn}
use Rattle.program_model.specs.declared.program.Program.{Program}
use Rattle.facts.specs.declared.facts.Facts.{Facts}
use Rattle.verify.specs.Typings.{Table}
use Rattle.rewrite_pass.specs.declared.edit.Edit.{Edit}
use Rattle.rewrite_pass.specs.Plans.{edited}
use Rattle.devirt.specs.Measure.{insn_weight, insns_weight}
use Rattle.devirt.specs.Rebound.{rebound_at, edit_at, edits_from}

-- whether something is written
abbrev pub some_written : List Edit → ℕ
some_written [] = 0
some_written (e ∷ es) = 1

set_seam : (pre is : List Insn) (n : ℕ) (i g : Insn) → length pre ≡ n → slice_set (pre ++ i ∷ is) n g ≡ pre ++ g ∷ is
set_seam [] is zero i g l = refl
set_seam [] is (suc n) i g l = absurd (omega (arith, l))
set_seam (x ∷ pre) is zero i g l = absurd (omega (arith, l))
set_seam (x ∷ pre) is (suc n) i g l = ap (λ r. x ∷ r) (set_seam pre is n i g (omega (arith, l)))

longer : (pre : List Insn) (n : ℕ) (i : Insn) → length pre ≡ n → length (pre ++ i ∷ []) ≡ n + 1
longer [] zero i l = refl
longer [] (suc n) i l = absurd (omega (arith, l))
longer (x ∷ pre) zero i l = absurd (omega (arith, l))
longer (x ∷ pre) (suc n) i l = let h : length (pre ++ i ∷ []) ≡ n + 1 = longer pre n i (omega (arith, l)) in omega (arith, h)

module _ (p : Program) (facts : Facts) (class method : ℕ) (x : Table) where
  abbrev pub or_old : Insn → Option Insn → Insn
  or_old i None = i
  or_old i (Some g) = g

  -- each instruction, or what is written over it
  abbrev pub rebuilt : ℕ → List Insn → List Insn
  rebuilt n [] = []
  rebuilt n (i ∷ is) = or_old i (rebound_at p facts class method x n i) ∷ rebuilt (n + 1) is

  abbrev from : ℕ → List Insn → List Edit
  from n is = edits_from p facts class method x n is

  pub edited_from : (is pre : List Insn) (n : ℕ) → length pre ≡ n → edited (from n is) (pre ++ is) ≡ pre ++ rebuilt n is
  edited_from [] pre n l = refl
  edited_from (i ∷ is) pre n l = by (rebound_at p facts class method x n i) (λ j. edited_from is (pre ++ j ∷ []) (n + 1) (longer pre n j l))
    where
      by : (o : Option Insn) → ((j : Insn) → edited (from (n + 1) is) ((pre ++ j ∷ []) ++ is) ≡ (pre ++ j ∷ []) ++ rebuilt (n + 1) is)
          → edited (edit_at n o ++ from (n + 1) is) (pre ++ i ∷ is) ≡ pre ++ or_old i o ∷ rebuilt (n + 1) is
      by None more = ap (edited (from (n + 1) is)) (sym (append_assoc pre (i ∷ []) is)) ∙ (more i ∙ append_assoc pre (i ∷ []) (rebuilt (n + 1) is))
      by (Some g) more = ap (edited (from (n + 1) is)) (set_seam pre is n i g l ∙ sym (append_assoc pre (g ∷ []) is)) ∙ (more g ∙ append_assoc pre (g ∷ []) (rebuilt (n + 1) is))

  pub edited_all : (is : List Insn) → edited (from 0 is) is ≡ rebuilt 0 is
  edited_all is = edited_from is [] 0 refl

  -- where each that is written weighs less, the body weighs less, if something is written
  module _ (w : InvokeKind → ℕ → ℕ) (less : (n : ℕ) (i g : Insn) → rebound_at p facts class method x n i ≡ Some g → insn_weight w g < insn_weight w i) where
    pub rebuilt_weight : (is : List Insn) (n : ℕ) → insns_weight w (rebuilt n is) + some_written (from n is) ≤ insns_weight w is
    rebuilt_weight [] n = omega arith
    rebuilt_weight (i ∷ is) n = by (rebound_at p facts class method x n i) refl (rebuilt_weight is (n + 1))
      where
        by : (o : Option Insn) → rebound_at p facts class method x n i ≡ o → insns_weight w (rebuilt (n + 1) is) + some_written (from (n + 1) is) ≤ insns_weight w is
            → insn_weight w (or_old i o) + insns_weight w (rebuilt (n + 1) is) + some_written (edit_at n o ++ from (n + 1) is) ≤ insn_weight w i + insns_weight w is
        by None e h = omega (arith, h)
        by (Some g) e h = let l : insn_weight w g < insn_weight w i = less n i g e in omega (arith, h, l)
