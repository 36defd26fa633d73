use Rattle.std.proofs.Common.{◌≡◌}
use Rattle.value_ops.specs.Tests.{without_run}
use Rattle.value_ops.proofs.switches.without_run.Given as goal

abbrev pub invariant-loop-place : goal.invariant-loop-place
invariant-loop-place l = l.left ≡ without_run l.start l.place l.initial.left
