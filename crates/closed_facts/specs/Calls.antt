-- What a reached call passes comes to each method that it may enter.
use Rattle.std.specs.Prelude.{◌≡◌, ℕ, Bool, true, List, Some, slice_get}
use Rattle.insn_set.specs.declared.ops.InvokeKind.{InvokeKind}
use Rattle.insn_set.specs.declared.form.Insn.TheVariants as insn
use Rattle.program_model.specs.declared.program.MethodAt.{MethodAt}
use Rattle.program_model.specs.declared.program.Program.{Program}
use Rattle.dom_frame.specs.Registers.{value_at}
use Rattle.dom_frame.specs.Steps.{receiver}
use Rattle.facts.specs.declared.facts.Facts.{Facts}
use Rattle.call_targets.specs.declared.table.Targets.{Targets}
use Rattle.closed_facts.specs.Tables.{IsBelow, At, IsEntered, parameter_at}
use Rattle.closed_facts.specs.Found.{IsBound, MayCall}

pub record Calls (p : Program) (targets : Targets) (t : Facts) : Type 0 where
  pub passes : (at : MethodAt) (n i r method m : ℕ) (kind : InvokeKind) (args : List ℕ) (coded : Bool) (here : At p t at n) → here.insn ≡ insn.Invoke kind method args
      → MayCall p targets at.class method kind m coded → slice_get args i ≡ Some r → IsBelow (value_at here.registers r) (parameter_at t m i)
  -- of a receiver by which the method is found also where the call has no arguments
  pub receives : (at : MethodAt) (n method m : ℕ) (kind : InvokeKind) (args : List ℕ) (coded : Bool) (here : At p t at n) → here.insn ≡ insn.Invoke kind method args
      → (IsBound kind → ⊥) → MayCall p targets at.class method kind m coded → IsBelow (value_at here.registers (receiver args)) (parameter_at t m 0)
  pub enters : (at : MethodAt) (n method m : ℕ) (kind : InvokeKind) (args : List ℕ) (here : At p t at n) → here.insn ≡ insn.Invoke kind method args
      → MayCall p targets at.class method kind m true → IsEntered t m
