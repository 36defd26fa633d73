use Rattle.std.proofs.Common.{◌≡◌, None, take}
use Rattle.std.specs.Prelude.{position}
use Rattle.class_defs.specs.Starts.{is_initialiser}
use Rattle.hierarchy.proofs.names.initialiser.Given as goal

abbrev pub invariant-loop-place : goal.invariant-loop-place
invariant-loop-place l = position (is_initialiser l.program) (take l.place l.class.methods) ≡ None
