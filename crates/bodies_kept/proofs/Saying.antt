-- Instructions with other registers say the same.
use Rattle.std.proofs.Common.{◌≡◌, ℕ, true, List, refl, ap}
use Rattle.std.specs.Prelude.{if◌then◌else◌}
use Rattle.insn_set.specs.declared.ops.InvokeKind.{InvokeKind}
use Rattle.insn_set.specs.declared.ops.InvokeKind.TheVariants as call
use Rattle.insn_set.specs.declared.form.Insn.{Insn}
use Rattle.insn_set.specs.declared.form.Insn.TheVariants as insn
use Rattle.program_model.specs.declared.program.Program.{Program}
use Rattle.dalvik_defs.specs.Naming.{form_of, method_at, named}
use Rattle.dalvik_defs.specs.Under.{defines}
use Rattle.insn_regs.specs.Remade.{remade}
use Rattle.program_laws.specs.Said.{Quiet, Calls, said}

pub remade_said : (p : Program) (r w : ℕ → ℕ) (x : Insn) → said (named p) (form_of p (remade r w x)) ≡ said (named p) (form_of p x)
remade_said p r w (insn.Invoke call.Virtual method args) = refl
remade_said p r w (insn.Invoke call.Interface method args) = refl
remade_said p r w (insn.Invoke call.Static method args) = refl
remade_said p r w (insn.Invoke call.Direct method args) = refl
remade_said p r w (insn.Invoke call.Super method args) = refl
remade_said p r w x = refl

-- a call of a method of a class of the program says nothing
pub own_call_quiet : (p : Program) (kind : InvokeKind) (method : ℕ) (args : List ℕ) → defines (named p) (method_at p method).class ≡ true
    → said (named p) (form_of p (insn.Invoke kind method args)) ≡ Quiet
own_call_quiet p call.Virtual method args e = ap (λ b. if b then Quiet else Calls (method_at p method)) e
own_call_quiet p call.Interface method args e = ap (λ b. if b then Quiet else Calls (method_at p method)) e
own_call_quiet p call.Static method args e = refl
own_call_quiet p call.Direct method args e = refl
own_call_quiet p call.Super method args e = refl
