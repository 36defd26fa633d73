-- What other registers keep of an instruction.
use Rattle.std.proofs.Common.{◌≡◌, ℕ, Bool, true, refl, sym, ap, ◌∙◌}
use Rattle.std.specs.Prelude.{List, not, nat_eq, Some}
use Rattle.insn_set.specs.Flow.{goes_on, targets_of}
use Rattle.insn_set.specs.declared.form.Insn.{Insn}
use Rattle.insn_set.specs.declared.form.Insn.TheVariants as insn
use Rattle.program_model.specs.BodyRules.{has_result, may_follow, may_enter, leaves, is_caught}
use Rattle.program_model.specs.Cells.{entries_of}
use Rattle.program_model.specs.OperandRules.{numbers_fit}
use Rattle.program_model.specs.RegionRules.{may_begin}
use Rattle.program_model.specs.declared.body.Region.{Region}
use Rattle.program_model.specs.declared.program.Program.{Program}
use Rattle.insn_regs.specs.Remade.{remade}

module _ (r w : ℕ → ℕ) where
  pub same_targets : (i : Insn) → targets_of (remade r w i) ≡ targets_of i
  same_targets insn.Nop = refl
  same_targets i = refl

  pub same_goes_on : (i : Insn) → goes_on (remade r w i) ≡ goes_on i
  same_goes_on insn.Nop = refl
  same_goes_on i = refl

  pub same_result : (i : Insn) → has_result (remade r w i) ≡ has_result i
  same_result insn.Nop = refl
  same_result i = refl

  pub same_begin : (i : Insn) → may_begin (Some (remade r w i)) ≡ may_begin (Some i)
  same_begin insn.Nop = refl
  same_begin i = refl

  pub same_enter : (i : Insn) → may_enter (Some (remade r w i)) ≡ may_enter (Some i)
  same_enter insn.Nop = refl
  same_enter i = refl

  pub same_leaves : (k : ℕ) (i : Insn) → leaves k (remade r w i) ≡ leaves k i
  same_leaves k insn.Nop = refl
  same_leaves k i = refl

  pub same_caught : (rs : List Region) (k : ℕ) (i : Insn) → is_caught rs k (remade r w i) ≡ is_caught rs k i
  same_caught rs k insn.Nop = refl
  same_caught rs k i = refl

  pub same_entries : (i : Insn) → entries_of (remade r w i) ≡ entries_of i
  same_entries insn.Nop = refl
  same_entries i = refl

  pub same_numbers : (p : Program) (i : Insn) → numbers_fit (remade r w i) p ≡ numbers_fit i p
  unfolding numbers_fit
  same_numbers p insn.Nop = refl
  same_numbers p i = refl

  -- a pair that follows does so with other registers in both
  pub same_follow : (u v : ℕ → ℕ) (i j : Insn) → may_follow (remade r w i) (remade u v j) ≡ may_follow i j
  same_follow u v i (insn.MoveResult slot to) = same_result i
  same_follow u v i (insn.MoveException to) = ap not (same_goes_on i)
  same_follow u v i insn.Nop = refl
  same_follow u v i j = refl
