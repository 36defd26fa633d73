use Rattle.std.proofs.Common.{◌≡◌, ℕ, ◌<◌, Some}
use Rattle.std.specs.Prelude.{slice_get}
use Rattle.dom_frame.specs.Registers.{value_at}
use Rattle.closed_facts.specs.Tables.{IsBelow, parameter_at}
use Rattle.facts_check.proofs.calls.are_passed.Given as goal

abbrev pub invariant-loop-place : goal.invariant-loop-place
invariant-loop-place l = (i r : ℕ) → i < l.place → slice_get l.args i ≡ Some r → IsBelow (value_at l.registers r) (parameter_at l.known.facts.now l.method i)
