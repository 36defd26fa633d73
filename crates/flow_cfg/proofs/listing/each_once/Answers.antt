use Rattle.std.proofs.Common.{◌≡◌, length, arith}
use Rattle.flow_cfg.proofs.Listed.{below_grown, lists_all}
use Rattle.flow_cfg.proofs.listing.each_once.Goals as goal

pub loop-node-preserved : goal.loop-node-preserved
loop-node-preserved c =
    let whole : length c.list_once.new.seen ≡ c.loop-node.seen.len = omega arith in
    let long : length c.list_once.new.seen ≡ c.args.nodes = omega (arith, c.loop-node.invariant.long) in
    below_grown c.args.nodes 0 c.loop-node.seen.len c.loop-node.seen.items c.as_mut_slice.result.now c.list_once.new.seen c.loop-node.order.items whole c.as_mut_slice.ensures.value long c.loop-node.invariant c.list_once.new.order.items c.in_ok-list_once.ensures.lists c.in_ok-list_once.ensures.stay

pub returns : goal.returns
returns c = lists_all c.args.nodes c.loop-unseen.unseen c.loop-unseen.seen.items c.loop-unseen.order.items c.loop-unseen-test.false c.loop-unseen.invariant
