use Rattle.std.proofs.Common.{◌≡◌, ℕ, ◌<◌, Some}
use Rattle.std.specs.Prelude.{slice_get}
use Rattle.program_model.specs.declared.body.Handler.{Handler}
use Rattle.facts_check.specs.Landing.{Lands}
use Rattle.facts_check.proofs.jumps.handlers_land.Given as goal

abbrev pub invariant-loop-handler : goal.invariant-loop-handler
invariant-loop-handler l = (i : ℕ) (h : Handler) → i < l.handler-index → slice_get l.handlers i ≡ Some h → Lands (slice_get l.starts h.position) l.registers
