use Rattle.std.proofs.Common.{length}
use Rattle.quiet_methods.proofs.bodies.ranked.Goals as goal
use Rattle.std.proofs.Common.{arith, ap}
use Rattle.quiet_methods.proofs.Judging.{nodes_long}

-- src/bodies.rt:165:17
pub settle-requires : goal.settle-requires
settle-requires c = omega (arith, ap length c.deref.ensures.value, ap length c.in_ok-nodes.ensures, nodes_long c.args.insns.now c.args.frames.now (length c.args.insns.now), c.requires)
