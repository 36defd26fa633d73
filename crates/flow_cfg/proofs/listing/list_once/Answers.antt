use Rattle.flow_cfg.proofs.Listed.{lists_more}
use Rattle.flow_cfg.proofs.listing.list_once.Goals as goal

pub returns-clause-lists : goal.returns-clause-lists
returns-clause-lists c = rw c.in_ok-push.ensures.items (lists_more c.args.seen.now c.args.order.now.items c.args.node c.requires c.if-place-seen.false c.if-seen-place.false)
