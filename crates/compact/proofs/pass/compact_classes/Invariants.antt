use Rattle.compact.specs.Renamed.{AreEdited, IsCompactedClass}
use Rattle.compact.proofs.pass.compact_classes.Given as goal

abbrev pub invariant-loop-place : goal.invariant-loop-place
invariant-loop-place l = AreEdited (IsCompactedClass l.widths l.admitted) l.place l.count l.initial.classes l.classes
