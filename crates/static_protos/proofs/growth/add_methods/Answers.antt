use Rattle.std.proofs.Common.{ap, subst, take, take_all}
use Rattle.static_protos.specs.Growing.{IsGrown, grown_methods}
use Rattle.static_protos.proofs.Grown.{methods_grown}
use Rattle.static_protos.proofs.growth.add_methods.Goals as goal

pub loop-method-init : goal.loop-method-init
loop-method-init c = λ t g. g

pub loop-method-preserved : goal.loop-method-preserved
loop-method-preserved c = λ t g.
    let p = c.args.program.now in
    let i = c.loop-method.method-index in
    methods_grown p c.args.marked.now t c.args.class.now c.args.methods.now i c.method-item.result c.add_marked.new.additions c.loop-method-test.true c.method-item.is
    (c.in_ok-add_marked.ensures (grown_methods p c.args.marked.now t c.args.class.now (take i c.args.methods.now)) (c.loop-method.invariant t g))

pub returns : goal.returns
returns c = λ t g. subst (λ ms. IsGrown c.args.program.now (grown_methods c.args.program.now c.args.marked.now t c.args.class.now ms) c.loop-method.additions) (take_all c.loop-method.method-index c.args.methods.now c.loop-method-test.false) (c.loop-method.invariant t g)
