-- What facts and kinds let constant propagation write over an instruction, by number (Dalvik bytecode, "Summary of bytecode
-- set"; this project's profile).
use Rattle.std.specs.Prelude.{◌≡◌, ℕ, zero, suc, ◌+◌, true, List, Option, Some, None, slice_get}
use Rattle.insn_set.specs.declared.form.Insn.{Insn}
use Rattle.program_model.specs.declared.body.Body.{Body}
use Rattle.program_model.specs.declared.program.Method.{Method}
use Rattle.program_model.specs.declared.program.MethodAt.{MethodAt}
use Rattle.program_model.specs.declared.program.Program.{Program}
use Rattle.domains.specs.Values.{Parts}
use Rattle.dom_frame.specs.declared.frames.Frame.{Frame}
use Rattle.facts.specs.Lent.{frame_at}
use Rattle.facts.specs.declared.facts.Facts.{Facts}
use Rattle.rewrite_pass.specs.declared.edit.Edit.{Edit}
use Rattle.verify.specs.Typings.{Table}
use Rattle.const_prop.specs.declared.numbers.Number.{Number}
use Rattle.const_prop.specs.Constants.{number_written, IsConstantFor}
use Rattle.const_prop.specs.Choices.{chosen}
use Rattle.const_prop.specs.Kinds.{fits, is_typed_so}
use Rattle.const_prop.specs.Known.{way_by, number_by}
use Rattle.const_prop.specs.Given.{given}

-- What may be written over a form, by the frame at its position and what the form brings from elsewhere: the constant of the
-- only number that it writes, or a goto or a nop along the only way that a branch goes.
pub data IsAllowed (p : Program) (given : Parts) (frame : Option Frame) (n : ℕ) (f : Insn) : Insn → Type 0 where
  Constant : (number : Number) (g : Insn) → number_by p given frame f ≡ Some number → number_written g ≡ Some number → IsConstantFor f g → IsAllowed p given frame n f g
  Branch : (g : Insn) → chosen f (n + 1) (way_by frame f) ≡ Some g → IsAllowed p given frame n f g

-- the instruction in front of a position
abbrev pub insn_before : List Insn → ℕ → Option Insn
insn_before is zero = None
insn_before is (suc n) = slice_get is n

-- the number of a constant fits what stands in front of it and the typing of the method, if it has one
pub record KeepsKinds (p : Program) (x : Option Table) (before : Option Insn) (n : ℕ) (f : Insn) (number : Number) : Type 0 where
  pub fits : fits p before f number ≡ true
  pub typed : is_typed_so x n f (Some number) ≡ true

-- an instruction that is written at a position of a body of a method in the class at a place, by facts and by a typing
pub record IsFoldOf (p : Program) (facts : Facts) (x : Option Table) (class method : ℕ) (b : Body) (n : ℕ) (g : Insn) : Type 0 where
  pub form : Insn
  pub there : slice_get b.insns n ≡ Some form
  pub allowed : IsAllowed p (given p facts class (insn_before b.insns n) form) (frame_at facts.frames.items method n) n form g
  pub kinds : (number : Number) → number_written g ≡ Some number → KeepsKinds p x (insn_before b.insns n) n form number

abbrev pub IsFold : Program → Facts → Option Table → MethodAt → Method → Body → Edit → Type 0
IsFold p facts x at m b e = IsFoldOf p facts x at.class m.name b e.position e.insn
