-- What becomes a nop since it does nothing, by number (Dalvik bytecode, "Summary of bytecode set"; this project's profile).
use Rattle.std.specs.Prelude.{◌≡◌, ℕ, Bool, true, false, List, [], ◌∷◌, Some, All, slice_get}
use Rattle.insn_set.specs.Flow.{divides}
use Rattle.insn_set.specs.declared.ops.InvokeKind.{InvokeKind}
use Rattle.insn_set.specs.declared.ops.InvokeKind.TheVariants as call
use Rattle.insn_set.specs.declared.form.Insn.{Insn}
use Rattle.insn_set.specs.declared.form.Insn.TheVariants as insn
use Rattle.program_model.specs.declared.body.Body.{Body}
use Rattle.rewrite_pass.specs.declared.edit.Edit.{Edit}

-- calls that find one method by a name
abbrev pub is_direct_call : InvokeKind → Bool
is_direct_call call.Static = true
is_direct_call call.Direct = true
is_direct_call call.Virtual = true
is_direct_call kind = false

-- such a call, or a division of two registers
abbrev pub may_go : Insn → Bool
may_go (insn.Invoke kind method args) = is_direct_call kind
may_go (insn.Binary op to a b) = divides op
may_go f = false

-- a nop over such an instruction
pub record IsDropped (b : Body) (e : Edit) : Type 0 where
  pub form : Insn
  pub there : slice_get b.insns e.position ≡ Some form
  pub may : may_go form ≡ true
  pub nop : e.insn ≡ insn.Nop

abbrev pub AreDropped : Body → List Edit → Type 0
AreDropped b es = All (IsDropped b) es

abbrev pub nop_if : Bool → ℕ → List Edit
nop_if false n = []
nop_if true n = record { position = n; insn = insn.Nop } ∷ []
