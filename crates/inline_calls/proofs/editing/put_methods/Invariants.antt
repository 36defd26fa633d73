use Rattle.std.proofs.Common.{◌≡◌, take}
use Rattle.inline_calls.specs.Edited.{each_by, method_by}
use Rattle.inline_calls.proofs.editing.put_methods.Given as goal

abbrev pub invariant-loop-place : goal.invariant-loop-place
invariant-loop-place l = l.methods ≡ each_by method_by (take l.place l.row) l.initial.methods
