use Rattle.std.proofs.Common.{◌≡◌, length, arith}
use Rattle.flow_cfg.proofs.Nested.{hold_more}
use Rattle.flow_cfg.proofs.ends.holding_ends.Goals as goal

pub loop-from-preserved : goal.loop-from-preserved
loop-from-preserved c =
    let whole : length c.hold_edge.new.ends ≡ c.loop-from.ends.len = omega arith in
    let long : length c.hold_edge.new.ends ≡ length c.args.places.now = omega (arith, c.loop-from.invariant.long) in
    hold_more c.args.places.now c.loop-from.ends.items c.as_mut_slice.result.now c.hold_edge.new.ends c.args.edges.now c.loop-from.from-index c.loop-from.ends.len whole c.as_mut_slice.ensures.value c.loop-from-test.true c.loop-from.invariant c.hold_edge.ensures.ends c.hold_edge.ensures.grown long c.hold_edge.ensures.held c.hold_edge.ensures.caused
