use Rattle.std.proofs.Common.{ℕ, ◌<◌}
use Rattle.dom_frame.specs.Registers.{value_at}
use Rattle.domains.specs.Values.{any_value}
use Rattle.closed_facts.specs.Tables.{IsBelow}
use Rattle.facts_check.proofs.body.leaves_free.Given as goal

abbrev pub invariant-loop-register : goal.invariant-loop-register
invariant-loop-register l = (r : ℕ) → r < l.register → IsBelow any_value (value_at l.registers r)
