use Rattle.std.proofs.Common.{ap, length, arith}
use Rattle.call_targets.proofs.Contained.{at_place}
use Rattle.call_targets.specs.Called.{AmongClasses}
use Rattle.call_targets.proofs.Naming.{notes_none, classes_at, are_named}
use Rattle.call_targets.proofs.named.Named.new.Goals as goal

pub loop-class-init : goal.loop-class-init
loop-class-init c = λ few. notes_none c.args.at.now.program.now (AmongClasses c.args.live.now 0 c.args.at.now.program.now.classes) c.in_ok-named.named (c.in_ok-named.ensures.seen few) (λ i m name k e. let l = k.before in omega (arith, l))

pub loop-class-preserved : goal.loop-class-preserved
loop-class-preserved c = λ few. let f = c.loop-class.invariant few in
    classes_at c.args.live.now c.args.at.now.program.now c.in_ok-named.named c.loop-class.named c.add_class.new.self c.args.at.now.program.now.classes c.loop-class.class-index c.class-item.result
    (at_place c.args.at.now.program.now.classes c.as_slice-class-items.result.now c.loop-class.class-index c.class-item.result c.as_slice-class-items.ensures c.class-item.is c.loop-class-test.true).got f (c.in_ok-add_class.ensures few f.are)

pub returns : goal.returns
returns c = λ few. are_named c.args.live.now c.args.at.now.program.now c.in_ok-named.named c.loop-class.named c.loop-class.class-index (let l = c.loop-class-test.false in let e = ap length c.as_slice-class-items.ensures in omega (arith, l, e)) c.in_ok-named.ensures.none (c.loop-class.invariant few)
