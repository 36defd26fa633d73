use Rattle.call_targets.proofs.made.targets.Goals as goal

pub returns : goal.returns
returns c = λ fits is. c.in_order.ensures c.args.program.now c.args.outside.now c.args.live.now (c.in_ok-search.ensures fits is)
