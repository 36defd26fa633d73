use Rattle.std.proofs.Common.{◌≡◌, ◌+◌, refl, sym, ap, subst, take, take_all, arith}
use Rattle.loose_methods.specs.Loose.{methods_allow, classes_allow}
use Rattle.loose_methods.specs.Sifting.{Sifts, AreShortCodes}
use Rattle.loose_methods.proofs.Allowed.{classes_more}
use Rattle.loose_methods.proofs.Placed.{got}
use Rattle.loose_methods.proofs.Sifts.{sifts_none, sifts_same, sifts_then}
use Rattle.loose_methods.proofs.calls.Sifter.judge_classes.Goals as goal

pub loop-class-init : goal.loop-class-init
loop-class-init c = λ o j s few short. sifts_none c.args.self.now.judged.program.now o _ c.args.marks.now s (λ n m. refl)

pub loop-class-preserved : goal.loop-class-preserved
loop-class-preserved c = λ o j s few short.
    let p = c.args.self.now.judged.program.now in
    let facts = c.args.self.now.facts.now in
    let admitted = c.args.self.now.admitted.now in
    let ks = c.args.classes.now in
    let i = c.loop-class.class in
    let lt = c.loop-class-test.true in
    let x = c.index-classes-class.result in
    let word : c.word.result ≡ i = c.word.ensures (omega (arith, lt, few)) in
    let was = c.loop-class.invariant o j s few short in
    let codes : AreShortCodes c.as_slice.result.now = subst AreShortCodes (sym c.as_slice.ensures) (short i x (got ks i x lt c.index-classes-class.is)) in
    let step = c.in_ok-judge_methods.ensures o j was.sifted codes in
    let step2 : Sifts p o (λ n. methods_allow p facts admitted n i x.methods) c.loop-class.marks c.judge_methods.new.marks =
    subst (λ k. Sifts p o (λ n. methods_allow p facts admitted n k x.methods) c.loop-class.marks c.judge_methods.new.marks) word (subst (λ ms. Sifts p o (λ n. methods_allow p facts admitted n c.word.result ms) c.loop-class.marks c.judge_methods.new.marks) c.as_slice.ensures step) in
    sifts_then p o (λ n. classes_allow p facts admitted n 0 (take i ks)) (λ n. methods_allow p facts admitted n i x.methods) (λ n. classes_allow p facts admitted n 0 (take (i + 1) ks)) c.args.marks.now c.loop-class.marks c.judge_methods.new.marks s was step2
    (λ n m. classes_more p facts admitted n ks i x lt c.index-classes-class.is)

pub returns : goal.returns
returns c = λ o j s few short.
    let p = c.args.self.now.judged.program.now in
    sifts_same p o _ _ c.args.marks.now c.loop-class.marks (c.loop-class.invariant o j s few short) (λ n m. ap (classes_allow p c.args.self.now.facts.now c.args.self.now.admitted.now n 0) (take_all c.loop-class.class c.args.classes.now c.loop-class-test.false))
