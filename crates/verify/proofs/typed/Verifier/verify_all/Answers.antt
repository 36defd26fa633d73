use Rattle.std.proofs.Common.{◌≡◌, ◌<◌, length, arith, refl, subst}
use Rattle.verify.proofs.Bodies.{class_on, first_refused}
use Rattle.verify.proofs.typed.Verifier.verify_all.Goals as goal

pub loop-class-preserved : goal.loop-class-preserved
loop-class-preserved c =
    let i = c.loop-class.invariant in
    let e = c.saturating_add-at.ensures in
    record {
      below = λ f.
          let lt : c.loop-class.class-index < length c.args.self.now.program.now.classes = subst (λ cs. c.loop-class.class-index < length cs) c.as_slice-class-items.ensures c.loop-class-test.true in
          let at : c.loop-class.at ≡ c.loop-class.class-index = omega (arith, i.at, f, lt) in
          class_on c.args.self.now c.as_slice-class-items.result.now c.class-item.result c.loop-class.class-index c.loop-class.at c.as_slice-class-items.ensures c.loop-class-test.true c.class-item.is at (c.in-Ok.ensures.typed i.serves) (i.below f);
      serves = c.in-Ok.ensures.serves i.serves;
      at = grind (arith, e, i.at);
    }

pub loop-class-init : goal.loop-class-init
loop-class-init c = record { below = λ few k d lt is. absurd (omega (arith, lt)); serves = c.new-scratch.ensures c.args.self.now.hierarchy.now; at = refl }

pub returns-in-Err-clause-refused : goal.returns-in-Err-clause-refused
returns-in-Err-clause-refused c = λ f.
    let i = c.loop-class.invariant in
    let lt : c.loop-class.class-index < length c.args.self.now.program.now.classes = subst (λ cs. c.loop-class.class-index < length cs) c.as_slice-class-items.ensures c.loop-class-test.true in
    let at : c.loop-class.at ≡ c.loop-class.class-index = omega (arith, i.at, f, lt) in
    first_refused c.args.self.now c.as_slice-class-items.result.now c.class-item.result c.loop-class.class-index c.loop-class.at c.in-Err.fault c.as_slice-class-items.ensures c.loop-class-test.true c.class-item.is at (i.below f) (c.in-Err.ensures.refused i.serves)
