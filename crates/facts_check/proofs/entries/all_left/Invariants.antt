use Rattle.std.proofs.Common.{◌≡◌, ℕ, ◌<◌, Some, true}
use Rattle.std.specs.Prelude.{slice_get}
use Rattle.domains.specs.Values.{any_value}
use Rattle.closed_facts.specs.Tables.{IsBelow}
use Rattle.facts_check.specs.Known.{answer_at}
use Rattle.facts_check.proofs.entries.all_left.Given as goal

abbrev pub invariant-loop-call : goal.invariant-loop-call
invariant-loop-call l = (c : ℕ) → c < l.call → slice_get l.known.targets.now.leaves.items c ≡ Some true → IsBelow any_value (answer_at l.known c)
