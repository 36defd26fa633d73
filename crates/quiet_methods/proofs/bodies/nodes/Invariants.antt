use Rattle.std.proofs.Common.{◌≡◌}
use Rattle.quiet_methods.specs.Bodies.{nodes_upto}
use Rattle.quiet_methods.proofs.bodies.nodes.Given as goal

abbrev pub invariant-loop-place : goal.invariant-loop-place
invariant-loop-place l = l.nodes.items ≡ nodes_upto l.insns l.frames l.place
