use Rattle.flow_cfg.proofs.Listed.{ListsBelow}
use Rattle.flow_cfg.proofs.listing.each_once.Given as goal

abbrev pub invariant-loop-node : goal.invariant-loop-node
invariant-loop-node l = ListsBelow l.nodes 0 l.seen.items l.order.items

abbrev pub invariant-loop-unseen : goal.invariant-loop-unseen
invariant-loop-unseen l = ListsBelow l.nodes l.unseen l.seen.items l.order.items
