-- What an instruction with other targets keeps.
use Rattle.std.proofs.Common.{◌≡◌, ℕ, true, false, true≢false, length, refl, sym, ap, ◌∙◌}
use Rattle.std.specs.Prelude.{◌&&◌, not, Option, Some, None, map, nat_eq, nat_lt}
use Rattle.lemmas.proofs.Bools.{clash}
use Rattle.lemmas.proofs.Lists.{map_long}
use Rattle.insn_set.specs.Flow.{goes_on, targets_of}
use Rattle.insn_set.specs.Spelling.{is_encodable, keys_ascend}
use Rattle.insn_set.specs.declared.form.Insn.{Insn}
use Rattle.insn_set.specs.declared.form.Insn.TheVariants as insn
use Rattle.program_model.specs.BodyRules.{has_result, may_enter, may_follow}
use Rattle.program_model.specs.OperandRules.{registers_fit, numbers_fit}
use Rattle.program_model.specs.RegionRules.{may_begin}
use Rattle.program_model.specs.declared.program.Program.{Program}
use Rattle.pass_defs.specs.Thinned.{insn_retargeted}

module _ (t : ℕ → ℕ) where
  pub encodable : (i : Insn) → is_encodable (insn_retargeted t i) ≡ is_encodable i
  encodable (insn.PackedSwitch on first targets) = ap (λ n. nat_lt on 256 && nat_lt n 65536) (map_long t targets)
  encodable (insn.SparseSwitch on keys targets) = ap (λ n. nat_lt on 256 && (nat_lt n 65536 && (nat_eq (length keys) n && keys_ascend keys))) (map_long t targets)
  encodable (insn.Goto target) = refl
  encodable i = refl

  pub registers : (i : Insn) (n : ℕ) → registers_fit (insn_retargeted t i) n ≡ registers_fit i n
  unfolding registers_fit
  registers (insn.Goto target) n = refl
  registers i n = refl

  pub numbers : (i : Insn) (p : Program) → numbers_fit (insn_retargeted t i) p ≡ numbers_fit i p
  unfolding numbers_fit
  numbers (insn.Goto target) p = refl
  numbers i p = refl

  pub flows_on : (i : Insn) → goes_on (insn_retargeted t i) ≡ goes_on i
  flows_on (insn.Goto target) = refl
  flows_on i = refl

  pub gives : (i : Insn) → has_result (insn_retargeted t i) ≡ has_result i
  gives (insn.Goto target) = refl
  gives i = refl

  pub enters : (i : Insn) → may_enter (Some (insn_retargeted t i)) ≡ may_enter (Some i)
  enters (insn.Goto target) = refl
  enters i = refl

  pub begins : (i : Insn) → may_begin (Some (insn_retargeted t i)) ≡ may_begin (Some i)
  begins (insn.Goto target) = refl
  begins i = refl

  pub aims : (i : Insn) → targets_of (insn_retargeted t i) ≡ map t (targets_of i)
  aims (insn.Goto target) = refl
  aims i = refl

-- where a branch may go a handler may begin
pub enter_begin : (o : Option Insn) → may_enter o ≡ true → may_begin o ≡ true
enter_begin None e = e
enter_begin (Some (insn.MoveResult slot to)) e = e
enter_begin (Some i) e = refl

-- what follows an instruction that goes on and gives no result may be entered
pub follow_enter : (i j : Insn) → goes_on i ≡ true → has_result i ≡ false → may_follow i j ≡ true → may_enter (Some j) ≡ true
follow_enter i (insn.MoveResult slot to) g r e = clash (has_result i) e r
follow_enter i (insn.MoveException to) g r e = absurd (true≢false (sym e ∙ ap not g))
follow_enter i j g r e = refl
