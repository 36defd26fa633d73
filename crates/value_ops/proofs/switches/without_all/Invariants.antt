use Rattle.std.proofs.Common.{◌≡◌, take}
use Rattle.value_ops.specs.Tests.{without_all}
use Rattle.value_ops.proofs.switches.without_all.Given as goal

abbrev pub invariant-loop-key : goal.invariant-loop-key
invariant-loop-key l = l.left ≡ without_all (take l.key-index l.keys) l.initial.left
