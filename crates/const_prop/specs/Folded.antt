-- What constant propagation writes, by number (Dalvik bytecode, "Summary of bytecode set"; this project's profile).
use Rattle.std.specs.Prelude.{◌≡◌, ℕ, true, Some, slice_get}
use Rattle.insn_set.specs.declared.form.Insn.{Insn}
use Rattle.insn_set.specs.declared.form.Insn.TheVariants as insn
use Rattle.program_model.specs.declared.body.Body.{Body}
use Rattle.rewrite_pass.specs.declared.edit.Edit.{Edit}
use Rattle.const_prop.specs.declared.folding.Fold.{Fold}
use Rattle.const_prop.specs.Constants.{number_written, IsConstantFor}
use Rattle.const_prop.specs.Choices.{is_choice, has_target}

-- A form becomes a constant, or, of a conditional branch or a switch, a goto to one of its targets or a nop.
pub data MayBecome (f : Insn) : Insn → Type 0 where
  Constant : (g : Insn) → IsConstantFor f g → MayBecome f g
  Target : (target : ℕ) → has_target f target ≡ true → MayBecome f (insn.Goto target)
  Next : is_choice f ≡ true → MayBecome f insn.Nop

-- an instruction that is written at a position of a body
pub record IsFoldOf (b : Body) (n : ℕ) (g : Insn) : Type 0 where
  pub form : Insn
  pub there : slice_get b.insns n ≡ Some form
  pub becomes : MayBecome form g

abbrev pub IsFold : Body → Edit → Type 0
IsFold b e = IsFoldOf b e.position e.insn

-- ---- as it is found

-- what is found for a form at a position, with the number that a constant writes
pub record IsFoundAt (n : ℕ) (f : Insn) (x : Fold) : Type 0 where
  pub position : x.position ≡ n
  pub becomes : MayBecome f x.insn
  pub written : number_written x.insn ≡ x.number

pub record IsFound (b : Body) (x : Fold) : Type 0 where
  pub fold : IsFoldOf b x.position x.insn
  pub written : number_written x.insn ≡ x.number
