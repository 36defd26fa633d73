use Rattle.compact.specs.Renamed.{AreEdited, IsCompactedMethod}
use Rattle.compact.proofs.pass.compact_methods.Given as goal

abbrev pub invariant-loop-place : goal.invariant-loop-place
invariant-loop-place l = AreEdited (IsCompactedMethod l.widths l.admitted) l.place l.count l.initial.methods l.methods
