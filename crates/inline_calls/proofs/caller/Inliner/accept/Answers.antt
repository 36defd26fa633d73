use Rattle.std.proofs.Common.{refl, ◌∙◌, arith}
use Rattle.inline_calls.proofs.Accepting.{none_accepted, next_accepted, has_begun, all_accepted}
use Rattle.inline_calls.proofs.Asks.{no_asks, more_asks, no_more, so_asks, on_err}
use Rattle.inline_calls.proofs.caller.Inliner.accept.Goals as goal

pub loop-position-init : goal.loop-position-init
loop-position-init g c = no_asks _ _ _ (none_accepted c.args.self.now c.args.caller c.args.cells _ c.new.ensures.items refl refl)

pub loop-position-preserved : goal.loop-position-preserved
loop-position-preserved g c =
    more_asks _ _ _ _ _ _ _ _ _ (next_accepted c.args.self.now c.args.caller c.args.cells c.loop-position.position c.loop-position.accepted _ (let l = c.loop-position-test.true in omega (arith, l, c.len-count.ensures))) c.loop-position.invariant c.in_ok-accepted.ensures.asked

pub returns-in_err-accepted-clause-begun : goal.returns-in_err-accepted-clause-begun
returns-in_err-accepted-clause-begun g c =
    on_err _ (no_more _ _ _ _ _ _ _ _ (has_begun c.args.self.now c.args.caller c.args.cells c.loop-position.position c.loop-position.accepted) c.loop-position.invariant c.in_err-accepted.ensures.unasked)

pub returns-clause-accepted : goal.returns-clause-accepted
returns-clause-accepted g c = so_asks _ _ _ _ _ _ (all_accepted c.args.self.now c.args.caller c.args.cells c.loop-position.position c.loop-position.accepted (let l = c.loop-position-test.false in omega (arith, l, c.len-count.ensures))) c.loop-position.invariant
