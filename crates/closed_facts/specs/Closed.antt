-- When a table of facts is closed: what a run does from where the table says that it may be stays within the table. The calls that
-- it may make on objects, and what the framework may enter and need, are told by the tables of call targets.
use Rattle.std.specs.Prelude.{◌≡◌, ℕ, true, Some, None}
use Rattle.insn_set.specs.declared.ops.Slot.{Slot}
use Rattle.insn_set.specs.declared.form.Insn.TheVariants as insn
use Rattle.program_model.specs.declared.program.Method.{Method}
use Rattle.program_model.specs.declared.program.MethodAt.{MethodAt}
use Rattle.program_model.specs.declared.program.Program.{Program}
use Rattle.program_model.specs.declared.pass.Outside.{Outside}
use Rattle.program_model.specs.Lookups.{method_at}
use Rattle.domains.specs.Values.{any_value}
use Rattle.dom_frame.specs.Registers.{value_at}
use Rattle.facts.specs.declared.facts.Facts.{Facts}
use Rattle.call_graph.specs.declared.live_set.LiveSet.{LiveSet}
use Rattle.call_targets.specs.Targeted.{is_on}
use Rattle.call_targets.specs.declared.table.Targets.{Targets}
use Rattle.closed_facts.specs.Tables.{IsBelow, At, parameter_at, result_at}
use Rattle.closed_facts.specs.Entries.{OpensEntries, Begins}
use Rattle.closed_facts.specs.Fields.{HoldsFields}
use Rattle.closed_facts.specs.Flows.{Flows}
use Rattle.closed_facts.specs.Calls.{Calls}

-- what is returned is among the results
abbrev pub Returns : Program → Facts → Type 0
Returns p t = (at : MethodAt) (n from : ℕ) (s : Slot) (here : At p t at n) → here.insn ≡ insn.Return s from → IsBelow (value_at here.registers from) (result_at t here.method.name)

-- a method without code may be passed anything
abbrev pub LeavesOpen : Program → Facts → Type 0
LeavesOpen p t = (at : MethodAt) (m : Method) (i : ℕ) → method_at p at ≡ Some m → m.body ≡ None → IsBelow any_value (parameter_at t m.name i)

-- A reached method is live: the tables of call targets tell of the calls of live bodies alone.
abbrev pub ReachesLive : Program → LiveSet → Facts → Type 0
ReachesLive p live t = (at : MethodAt) (n : ℕ) (here : At p t at n) → is_on live.methods.items here.method.name ≡ true

pub record AreClosed (p : Program) (outside : Outside) (live : LiveSet) (targets : Targets) (t : Facts) : Type 0 where
  pub any : t.any ≡ any_value
  pub reached_live : ReachesLive p live t
  pub entries : OpensEntries p targets t
  pub begins : Begins p t
  pub fields : HoldsFields p outside t
  pub flows : Flows p targets t
  pub calls : Calls p targets t
  pub returns : Returns p t
  pub bare : LeavesOpen p t
