use Rattle.std.proofs.Common.{◌<◌, sym, arith}
use Rattle.code_read.proofs.Walks.{offsets_pass, offsets_go_on, offsets_stop, offsets_end}
use Rattle.code_read.proofs.handlers.offsets_from.Goals as goal

pub returns-then-at-most-clause-same : goal.returns-then-at-most-clause-same
returns-then-at-most-clause-same c = (offsets_pass _ _ _ _ _ _ c.loop-left.invariant c.if-at-most.true).same

pub returns-then-at-most-clause-rise : goal.returns-then-at-most-clause-rise
returns-then-at-most-clause-rise c = (offsets_pass _ _ _ _ _ _ c.loop-left.invariant c.if-at-most.true).rise

pub loop-left-preserved : goal.loop-left-preserved
loop-left-preserved c =
    let small : c.loop-left.at < 65536 = omega arith in
    offsets_go_on _ _ _ _ _ _ _ c.loop-left.invariant c.loop-left-test.true small c.in_ok-push.ensures.items (sym c.in-Some.ensures)

pub returns-in-None-clause-rise : goal.returns-in-None-clause-rise
returns-in-None-clause-rise c =
    let small : c.loop-left.at < 65536 = omega arith in
    (offsets_stop _ _ _ _ _ c.args.most _ c.loop-left.invariant c.loop-left-test.true small c.in_ok-push.ensures.items (sym c.in-None.ensures)).rise

pub returns-clause-rise : goal.returns-clause-rise
returns-clause-rise c = (offsets_end _ _ _ _ c.args.most _ c.loop-left.invariant c.loop-left-test.false).rise
