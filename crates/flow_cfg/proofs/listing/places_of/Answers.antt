use Rattle.flow_cfg.proofs.Listed.{places_more, places_all, places_within}
use Rattle.flow_cfg.proofs.listing.places_of.Goals as goal

pub loop-node-preserved : goal.loop-node-preserved
loop-node-preserved c = places_more c.args.order.now c.loop-node.places.items c.loop-node.place c.loop-node.node-index c.requires.once c.loop-node.invariant c.loop-node-test.true

pub returns-clause-within : goal.returns-clause-within
returns-clause-within c = places_within c.args.order.now c.loop-node.places.items c.requires.once c.loop-node.invariant.long (places_all c.args.order.now c.loop-node.places.items c.loop-node.place c.loop-node.node-index c.loop-node.invariant c.loop-node-test.false)
