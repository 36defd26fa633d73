use Rattle.std.proofs.Common.{ap, length, arith}
use Rattle.call_targets.proofs.Contained.{at_place}
use Rattle.call_targets.specs.Called.{AmongMethods}
use Rattle.call_targets.proofs.Naming.{notes_none, methods_at, methods_all}
use Rattle.call_targets.proofs.named.Named.add_class.Goals as goal

pub loop-method-init : goal.loop-method-init
loop-method-init c = λ few are. notes_none c.args.at.now.program.now (AmongMethods c.args.live.now 0 c.args.class.now.methods) c.args.self.now are (λ i m name k e. let l = k.before in omega (arith, l))

pub loop-method-preserved : goal.loop-method-preserved
loop-method-preserved c = λ few are. let f = c.loop-method.invariant few are in
    methods_at c.args.live.now c.args.at.now.program.now c.args.self.now c.loop-method.self c.add_method.new.self c.args.class.now.methods c.loop-method.method-index c.method-item.result
    (at_place c.args.class.now.methods c.as_slice-method-items.result.now c.loop-method.method-index c.method-item.result c.as_slice-method-items.ensures c.method-item.is c.loop-method-test.true).got f (c.in_ok-add_method.ensures few f.are)

pub returns : goal.returns
returns c = λ few are. methods_all c.args.live.now c.args.at.now.program.now c.args.self.now c.loop-method.self c.args.class.now.methods c.loop-method.method-index (let l = c.loop-method-test.false in let e = ap length c.as_slice-method-items.ensures in omega (arith, l, e)) (c.loop-method.invariant few are)
