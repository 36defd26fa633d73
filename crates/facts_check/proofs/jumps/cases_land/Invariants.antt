use Rattle.std.proofs.Common.{◌≡◌, ℕ, ◌<◌, Some}
use Rattle.std.specs.Prelude.{slice_get}
use Rattle.dom_frame.specs.Steps.{switched}
use Rattle.facts_check.specs.Landing.{LandsIf}
use Rattle.facts_check.proofs.jumps.cases_land.Given as goal

abbrev pub invariant-loop-place : goal.invariant-loop-place
invariant-loop-place l = (i target : ℕ) → i < l.place → slice_get l.targets i ≡ Some target → LandsIf (slice_get l.starts target) (switched i l.insn l.registers)
