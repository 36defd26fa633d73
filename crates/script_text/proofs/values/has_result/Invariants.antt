use Rattle.std.proofs.Common.{◌≡◌, drop}
use Rattle.text_defs.specs.Values.{has_result}
use Rattle.script_text.proofs.values.has_result.Given as goal

abbrev pub invariant-loop-place : goal.invariant-loop-place
invariant-loop-place l = has_result (drop l.place l.units) ≡ has_result l.units
