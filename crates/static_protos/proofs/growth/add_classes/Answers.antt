use Rattle.std.proofs.Common.{ap, subst, take, take_all}
use Rattle.static_protos.specs.Growing.{IsGrown, grown_methods, grown_classes}
use Rattle.static_protos.proofs.Grown.{classes_grown}
use Rattle.static_protos.proofs.growth.add_classes.Goals as goal

pub loop-class-init : goal.loop-class-init
loop-class-init c = λ t g. g

pub loop-class-preserved : goal.loop-class-preserved
loop-class-preserved c = λ t g.
    let p = c.args.program.now in
    let i = c.loop-class.class-index in
    let k = c.class-item.result in
    let before = grown_classes p c.args.marked.now t (take i c.args.classes.now) in
    classes_grown p c.args.marked.now t c.args.classes.now i k c.add_methods.new.additions c.loop-class-test.true c.class-item.is
    (subst (λ ms. IsGrown p (grown_methods p c.args.marked.now before k ms) c.add_methods.new.additions) c.as_slice.ensures (c.in_ok-add_methods.ensures before (c.loop-class.invariant t g)))

pub returns : goal.returns
returns c = λ t g. subst (λ ks. IsGrown c.args.program.now (grown_classes c.args.program.now c.args.marked.now t ks) c.loop-class.additions) (take_all c.loop-class.class-index c.args.classes.now c.loop-class-test.false) (c.loop-class.invariant t g)
