use Rattle.std.proofs.Common.{◌≡◌, take}
use Rattle.rewrite_pass.specs.Plans.{methods_by}
use Rattle.rewrite_pass.proofs.write.write_methods.Given as goal

abbrev pub invariant-loop-place : goal.invariant-loop-place
invariant-loop-place l = l.methods ≡ methods_by (take l.place l.plan) l.initial.methods
