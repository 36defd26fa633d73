use Rattle.std.proofs.Common.{◌≡◌, take}
use Rattle.rewrite_pass.specs.Plans.{classes_by}
use Rattle.rewrite_pass.proofs.write.write_classes.Given as goal

abbrev pub invariant-loop-place : goal.invariant-loop-place
invariant-loop-place l = l.classes ≡ classes_by (take l.place l.plan) l.initial.classes
