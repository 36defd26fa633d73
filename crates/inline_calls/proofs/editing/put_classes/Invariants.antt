use Rattle.std.proofs.Common.{◌≡◌, take}
use Rattle.inline_calls.specs.Edited.{each_by, class_by}
use Rattle.inline_calls.proofs.editing.put_classes.Given as goal

abbrev pub invariant-loop-place : goal.invariant-loop-place
invariant-loop-place l = l.classes ≡ each_by class_by (take l.place l.rows) l.initial.classes
