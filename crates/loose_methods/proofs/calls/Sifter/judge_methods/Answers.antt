use Rattle.std.proofs.Common.{◌+◌, refl, ap, take, take_all}
use Rattle.loose_methods.specs.Loose.{code_allows, methods_allow}
use Rattle.loose_methods.proofs.Allowed.{methods_more}
use Rattle.loose_methods.proofs.Placed.{got}
use Rattle.loose_methods.proofs.Sifts.{sifts_none, sifts_same, sifts_then}
use Rattle.loose_methods.proofs.calls.Sifter.judge_methods.Goals as goal

pub loop-method-init : goal.loop-method-init
loop-method-init c = λ o j s few. sifts_none c.args.self.now.judged.program.now o _ c.args.marks.now s (λ n m. refl)

pub loop-method-preserved : goal.loop-method-preserved
loop-method-preserved c = λ o j s few.
    let p = c.args.self.now.judged.program.now in
    let facts = c.args.self.now.facts.now in
    let admitted = c.args.self.now.admitted.now in
    let ms = c.args.methods.now in
    let i = c.loop-method.method-index in
    let lt = c.loop-method-test.true in
    let x = c.method-item.result in
    let was = c.loop-method.invariant o j s few in
    sifts_then p o (λ n. methods_allow p facts admitted n c.args.class (take i ms)) (λ n. code_allows p facts admitted n c.args.class x.name x.body) (λ n. methods_allow p facts admitted n c.args.class (take (i + 1) ms)) c.args.marks.now c.loop-method.marks c.judge_method.new.marks s was
    (c.in_ok-judge_method.ensures o j was.sifted (few i x (got ms i x lt c.method-item.is)))
    (λ n m. methods_more p facts admitted n c.args.class ms i x lt c.method-item.is)

pub returns : goal.returns
returns c = λ o j s few.
    let p = c.args.self.now.judged.program.now in
    sifts_same p o _ _ c.args.marks.now c.loop-method.marks (c.loop-method.invariant o j s few) (λ n m. ap (methods_allow p c.args.self.now.facts.now c.args.self.now.admitted.now n c.args.class) (take_all c.loop-method.method-index c.args.methods.now c.loop-method-test.false))
