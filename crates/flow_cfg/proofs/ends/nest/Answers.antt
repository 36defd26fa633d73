use Rattle.std.proofs.Common.{arith}
use Rattle.flow_cfg.proofs.Nested.{nested_none, nested_before, nested_all}
use Rattle.flow_cfg.proofs.ends.nest.Goals as goal

pub loop-head-init : goal.loop-head-init
loop-head-init c = nested_none c.args.ends.now c.requires

pub loop-head-preserved : goal.loop-head-preserved
loop-head-preserved c = nested_before c.args.ends.now c.loop-head.ends c.loop-head.head c.whole_end.result c.loop-head-test.true (omega (arith, c.loop-head.auto.head, c.loop-head.auto.ends)) c.loop-head.invariant c.whole_end.ensures.grown c.whole_end.ensures.within c.whole_end.ensures.holds c.whole_end.ensures.alone c.whole_end.ensures.source

pub returns-clause-nest : goal.returns-clause-nest
returns-clause-nest c = nested_all c.args.ends.now c.loop-head.ends c.loop-head.head c.loop-head-test.false c.loop-head.invariant
