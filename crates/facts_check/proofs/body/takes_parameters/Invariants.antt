use Rattle.std.proofs.Common.{ℕ, ◌<◌}
use Rattle.std.specs.Prelude.{◌+◌}
use Rattle.dom_frame.specs.Registers.{value_at}
use Rattle.closed_facts.specs.Tables.{IsBelow, parameter_at}
use Rattle.facts_check.proofs.body.takes_parameters.Given as goal

abbrev pub invariant-loop-word : goal.invariant-loop-word
invariant-loop-word l = (i : ℕ) → i < l.word → IsBelow (parameter_at l.known.facts.now l.number i) (value_at l.registers (l.free + i))
