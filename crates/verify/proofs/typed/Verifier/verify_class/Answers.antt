use Rattle.std.proofs.Common.{◌≡◌, ◌<◌, ◌≤◌, length, get_or, subst}
use Rattle.verify.specs.Flow.{places_of}
use Rattle.verify.proofs.Bodies.{method_on, methods_end}
use Rattle.verify.proofs.typed.Verifier.verify_class.Goals as goal

pub loop-method-preserved : goal.loop-method-preserved
loop-method-preserved c =
    let same = c.as_slice-method-items.ensures in
    let i = c.loop-method.invariant in
    record {
      serves = λ s. c.in-Ok.ensures.serves (i.serves s);
      types = λ s. method_on c.args.self.now c.args.class.now c.args.at c.args.class.now.methods c.method-item.result c.loop-method.method-index (places_of c.in-Ok._typings.states.items)
          (subst (λ ms. c.loop-method.method-index < length ms) same c.loop-method-test.true) (subst (λ ms. c.method-item.result ≡ get_or ms c.loop-method.method-index c.method-item.result) same c.method-item.is) (c.in-Ok.ensures.typed (i.serves s)) (i.types s);
    }

pub returns-clause-typed : goal.returns-clause-typed
returns-clause-typed c = λ s. methods_end c.args.self.now c.args.class.now c.args.at c.args.class.now.methods c.loop-method.method-index (subst (λ ms. length ms ≤ c.loop-method.method-index) c.as_slice-method-items.ensures c.loop-method-test.false) (c.loop-method.invariant.types s)
