use Rattle.std.proofs.Common.{◌≡◌, ℕ, ◌<◌, Some}
use Rattle.std.specs.Prelude.{slice_get}
use Rattle.dom_frame.specs.Registers.{value_at}
use Rattle.domains.specs.Values.{Parts}
use Rattle.closed_facts.specs.Tables.{IsBelow}
use Rattle.facts_check.proofs.entries.words_hold.Given as goal

abbrev pub invariant-loop-word : goal.invariant-loop-word
invariant-loop-word l = (i : ℕ) (v : Parts) → i < l.word → slice_get l.words i ≡ Some v → IsBelow (value_at l.pool i) v
