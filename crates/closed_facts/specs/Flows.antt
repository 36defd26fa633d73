-- What a reached position leaves comes to wherever it goes on.
use Rattle.std.specs.Prelude.{◌≡◌, ℕ, ◌+◌, Bool, List, Contains}
use Rattle.insn_set.specs.declared.ops.Slot.{Slot}
use Rattle.insn_set.specs.declared.ops.InvokeKind.{InvokeKind}
use Rattle.insn_set.specs.declared.form.Insn.{Insn}
use Rattle.insn_set.specs.declared.form.Insn.TheVariants as insn
use Rattle.insn_set.specs.Widths.{is_wide_slot}
use Rattle.program_model.specs.declared.program.MethodAt.{MethodAt}
use Rattle.program_model.specs.declared.program.Program.{Program}
use Rattle.program_model.specs.Lookups.{class_place}
use Rattle.flow_cfg.specs.Walks.{thrown_to}
use Rattle.domains.specs.Values.{Parts, any_value}
use Rattle.value_ops.specs.Left.{of_class}
use Rattle.dom_frame.specs.Registers.{Registers, put_sized}
use Rattle.facts.specs.declared.facts.Facts.{Facts}
use Rattle.call_targets.specs.declared.table.Targets.{Targets}
use Rattle.closed_facts.specs.Tables.{Arrives, At, registers_at, result_at}
use Rattle.closed_facts.specs.Found.{MayCall, MayLeave}
use Rattle.closed_facts.specs.Edges.{edges}

-- what a move of a result may take behind an instruction of a method of the class at a place
pub data Results (p : Program) (targets : Targets) (t : Facts) (class : ℕ) : Insn → Parts → Type 0 where
  Given : (kind : InvokeKind) (method m : ℕ) (args : List ℕ) (coded : Bool) → MayCall p targets class method kind m coded → Results p targets t class (insn.Invoke kind method args) (result_at t m)
  Left : (kind : InvokeKind) (method : ℕ) (args : List ℕ) → MayLeave p targets class method kind → Results p targets t class (insn.Invoke kind method args) any_value
  Filled : (kind : ℕ) (args : List ℕ) → Results p targets t class (insn.FilledNewArray kind args) (of_class (class_place p kind))

pub record Flows (p : Program) (targets : Targets) (t : Facts) : Type 0 where
  pub onward : (at : MethodAt) (n : ℕ) (q : ℕ × Registers) (here : At p t at n) → Contains (edges p t n here.insn here.registers) q → Arrives q.1 (registers_at t here.method.name q.0)
  pub taken : (at : MethodAt) (n to : ℕ) (s : Slot) (v : Parts) (here : At p t at n) (taker : At p t at (n + 1)) → taker.insn ≡ insn.MoveResult s to → Results p targets t at.class here.insn v
      → Arrives (put_sized (is_wide_slot s) to v taker.registers) (registers_at t here.method.name (n + 2))
  pub thrown : (at : MethodAt) (n q : ℕ) (here : At p t at n) → Contains (thrown_to here.body.regions n here.insn) q → Arrives here.registers (registers_at t here.method.name q)
