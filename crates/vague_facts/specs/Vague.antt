-- Facts that say nothing, and marks by which all is live.
use Rattle.std.specs.Prelude.{◌≡◌, ℕ, ◌<◌, ◌≤◌, true, [], Some, length}
use Rattle.program_model.specs.declared.body.Body.{Body}
use Rattle.program_model.specs.declared.program.Method.{Method}
use Rattle.program_model.specs.declared.program.MethodAt.{MethodAt}
use Rattle.program_model.specs.declared.program.Program.{Program}
use Rattle.program_model.specs.Lookups.{method_at}
use Rattle.domains.specs.Values.{any_value}
use Rattle.dom_frame.specs.Registers.{Registers, filled}
use Rattle.facts.specs.declared.facts.Facts.{Facts}
use Rattle.call_graph.specs.declared.facts.Fact.{Fact}
use Rattle.call_graph.specs.declared.live_set.LiveSet.{LiveSet}
use Rattle.call_graph.specs.Closed.{is_met}
use Rattle.closed_facts.specs.Tables.{registers_at}

-- anything in each of so many registers
abbrev pub anything : ℕ → Registers
anything size = filled size any_value

-- A run may come to each position of each body with anything in its registers; of parameters, results and fields nothing is said.
pub record IsVague (p : Program) (t : Facts) : Type 0 where
  pub size : ℕ
  pub some : 1 ≤ size
  pub room : (at : MethodAt) (m : Method) (b : Body) → method_at p at ≡ Some m → m.body ≡ Some b → b.registers ≤ size
  pub comes : (at : MethodAt) (m : Method) (b : Body) (n : ℕ) → method_at p at ≡ Some m → m.body ≡ Some b → n < length b.insns → registers_at t m.name n ≡ Some (anything size)
  pub any : t.any ≡ any_value
  pub parameters : t.parameters.items ≡ []
  pub results : t.results.items ≡ []
  pub fields : t.fields.items ≡ []

-- each number of a table is marked
abbrev pub IsWhole : LiveSet → Type 0
IsWhole s = (x : Fact) → is_met s x ≡ true
