-- The instruction that a form is of.
use Rattle.std.proofs.Common.{◌≡◌, ℕ, List}
use Rattle.insn_set.specs.declared.form.Insn.{Insn}
use Rattle.insn_set.specs.declared.form.Insn.TheVariants as insn
use Rattle.insn_set.specs.declared.ops.InvokeKind.{InvokeKind}
use Rattle.insn_set.specs.declared.ops.Slot.{Slot}
use Rattle.program_model.specs.declared.program.Program.{Program}
use Rattle.dalvik_defs.specs.Naming.{form_of, method_at}
use Rattle.dalvik_defs.specs.declared.forms.Form.TheVariants as form
use Rattle.dalvik_defs.specs.declared.names.MethodKey.{MethodKey}

pub record IsCall (p : Program) (i : Insn) (kind : InvokeKind) (k : MethodKey) (args : List ℕ) : Type 0 where
  pub method : ℕ
  pub is : i ≡ insn.Invoke kind method args
  pub named : method_at p method ≡ k

pub of_call : (p : Program) (i : Insn) (kind : InvokeKind) (k : MethodKey) (args : List ℕ) → form_of p i ≡ form.Invoke kind k args → IsCall p i kind k args
of_call p (insn.Invoke c m rs) kind k args e =
    let a : c ≡ kind = cc in
    let b : method_at p m ≡ k = cc in
    let d : rs ≡ args = cc in
    record { method = m; is = (λ i. insn.Invoke (a i) m (d i)); named = b }
of_call p i kind k args e = absurd (cc)

pub of_return : (p : Program) (i : Insn) (s : Slot) (from : ℕ) → form_of p i ≡ form.Return s from → i ≡ insn.Return s from
of_return p (insn.Return t r) s from e =
    let a : t ≡ s = cc in
    let b : r ≡ from = cc in
    λ i. insn.Return (a i) (b i)
of_return p i s from e = absurd (cc)

pub of_taking : (p : Program) (i : Insn) (s : Slot) (to : ℕ) → form_of p i ≡ form.MoveResult s to → i ≡ insn.MoveResult s to
of_taking p (insn.MoveResult t r) s to e =
    let a : t ≡ s = cc in
    let b : r ≡ to = cc in
    λ i. insn.MoveResult (a i) (b i)
of_taking p i s to e = absurd (cc)
