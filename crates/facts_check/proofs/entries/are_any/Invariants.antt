use Rattle.std.proofs.Common.{◌≡◌, ℕ, ◌<◌, Some}
use Rattle.std.specs.Prelude.{slice_get}
use Rattle.domains.specs.Values.{Parts, any_value}
use Rattle.closed_facts.specs.Tables.{IsBelow}
use Rattle.facts_check.proofs.entries.are_any.Given as goal

abbrev pub invariant-loop-value : goal.invariant-loop-value
invariant-loop-value l = (i : ℕ) (v : Parts) → i < l.value-index → slice_get l.values i ≡ Some v → IsBelow any_value v
