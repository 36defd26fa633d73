use Rattle.call_targets.specs.Noting.{call_notes}
use Rattle.call_targets.proofs.Adding.{adds_none, adds_at, adds_all}
use Rattle.call_targets.proofs.made.link_calls.Goals as goal

pub loop-call-init : goal.loop-call-init
loop-call-init c = record { ready = λ r. r; adds = λ is r. adds_none c.args.targets.now }

pub loop-call-preserved : goal.loop-call-preserved
loop-call-preserved c = record {
  ready = λ r. c.in_ok-link_call.ensures.ready (c.loop-call.invariant.ready r);
  adds = λ is r. adds_at (call_notes c.args.at.now.program.now c.args.class) c.args.targets.now c.loop-call.targets c.link_call.new.targets c.args.calls.now c.loop-call.call-index _ (c.loop-call.invariant.adds is r) c.loop-call-test.true (c.in_ok-link_call.ensures.adds is (c.loop-call.invariant.ready r));
}

pub returns-clause-adds : goal.returns-clause-adds
returns-clause-adds c = λ is r. adds_all (call_notes c.args.at.now.program.now c.args.class) c.args.targets.now c.loop-call.targets c.args.calls.now c.loop-call.call-index (c.loop-call.invariant.adds is r) c.loop-call-test.false
