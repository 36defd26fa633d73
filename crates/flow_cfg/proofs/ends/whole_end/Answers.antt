use Rattle.flow_cfg.proofs.Nested.{whole_begins, whole_more, whole_all}
use Rattle.flow_cfg.proofs.ends.whole_end.Goals as goal

pub loop-place-init : goal.loop-place-init
loop-place-init c = whole_begins c.args.ends.now c.args.head c.requires.ends c.requires.head

pub loop-place-preserved : goal.loop-place-preserved
loop-place-preserved c = whole_more c.args.ends.now c.args.head c.loop-place.end c.loop-place.place c.max-end.result c.requires.ends c.requires.nest c.max-end.ensures c.loop-place.invariant c.loop-place-test.true

pub returns-clause-holds : goal.returns-clause-holds
returns-clause-holds c = whole_all c.args.ends.now c.args.head c.loop-place.end c.loop-place.place c.loop-place.invariant c.loop-place-test.false
