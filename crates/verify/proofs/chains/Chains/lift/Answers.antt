use Rattle.std.proofs.Common.{◌≡◌, suc, ◌+◌, ◌-◌, arith}
use Rattle.verify.proofs.Climbs.{lift_on}
use Rattle.verify.proofs.chains.Chains.lift.Goals as goal

pub loop-preserved : goal.loop-preserved
loop-preserved c =
    let left : (c.len-end.result + 1) - c.loop.counter ≡ suc ((c.len-end.result + 1) - (c.loop.counter + 1)) = omega (arith, c.loop-test.true) in
    lift_on c.args.self.now _ _ c.loop.at c.args.depth _ _ _ left c.depth.ensures c.if-depth.false c.step-at.ensures c.loop.invariant
