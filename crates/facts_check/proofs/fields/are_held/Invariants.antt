use Rattle.std.proofs.Common.{◌≡◌, ℕ, ◌<◌, Some}
use Rattle.std.specs.Prelude.{slice_get}
use Rattle.program_model.specs.declared.program.Field.{Field}
use Rattle.facts_check.specs.Tables.{IsHeld}
use Rattle.facts_check.proofs.fields.are_held.Given as goal

abbrev pub invariant-loop-field : goal.invariant-loop-field
invariant-loop-field l = (i : ℕ) (f : Field) → i < l.field-index → slice_get l.fields i ≡ Some f → IsHeld l.known f
