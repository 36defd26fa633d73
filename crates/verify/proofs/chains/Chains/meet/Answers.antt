use Rattle.std.proofs.Common.{◌≡◌, suc, ◌+◌, ◌-◌, sym, ◌∙◌, arith}
use Rattle.verify.proofs.Climbs.{meet_on}
use Rattle.verify.proofs.chains.Chains.meet.Goals as goal

pub loop-preserved : goal.loop-preserved
loop-preserved c =
    let left : (c.len-end.result + 1) - c.loop.counter ≡ suc ((c.len-end.result + 1) - (c.loop.counter + 1)) = omega (arith, c.loop-test.true) in
    meet_on c.args.self.now _ _ c.loop.one c.loop.other _ _ _ left c.if-one-other.false (sym c.step_both.ensures ∙ c.in-Some.is) c.loop.invariant
