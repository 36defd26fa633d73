use Rattle.std.proofs.Common.{◌≡◌, ℕ, ◌<◌, Some}
use Rattle.std.specs.Prelude.{slice_get}
use Rattle.domains.specs.Values.{any_value}
use Rattle.closed_facts.specs.Tables.{IsBelow, field_at}
use Rattle.facts_check.proofs.fields.kept_hold.Given as goal

abbrev pub invariant-loop-field : goal.invariant-loop-field
invariant-loop-field l = (i n : ℕ) → i < l.field-index → slice_get l.known.outside.now.fields i ≡ Some n → IsBelow any_value (field_at l.known.facts.now n)
