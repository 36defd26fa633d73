use Rattle.std.proofs.Common.{refl}
use Rattle.call_targets.specs.Noting.{method_notes}
use Rattle.call_targets.proofs.Adding.{adds_none, adds_on, adds_all}
use Rattle.call_targets.proofs.Contained.{at_place}
use Rattle.call_targets.proofs.entered.enter_methods.Goals as goal

pub loop-method-init : goal.loop-method-init
loop-method-init c = record { ready = λ r. r; adds = λ is r. adds_none c.args.targets.now }

pub loop-method-preserved : goal.loop-method-preserved
loop-method-preserved c = record {
  ready = λ r. c.in_ok-enter_method.ensures.ready (c.loop-method.invariant.ready r);
  adds = λ is r. adds_on (method_notes c.args.at.now.program.now c.args.kept.now c.args.made.class c.args.made.outer) c.args.targets.now c.loop-method.targets c.enter_method.new.targets c.args.methods.now c.loop-method.method-index c.method-item.result
      (at_place c.args.methods.now c.args.methods.now c.loop-method.method-index c.method-item.result refl c.method-item.is c.loop-method-test.true) (c.loop-method.invariant.adds is r) (c.in_ok-enter_method.ensures.adds is (c.loop-method.invariant.ready r));
}

pub returns-clause-adds : goal.returns-clause-adds
returns-clause-adds c = λ is r. adds_all (method_notes c.args.at.now.program.now c.args.kept.now c.args.made.class c.args.made.outer) c.args.targets.now c.loop-method.targets c.args.methods.now c.loop-method.method-index (c.loop-method.invariant.adds is r) c.loop-method-test.false
