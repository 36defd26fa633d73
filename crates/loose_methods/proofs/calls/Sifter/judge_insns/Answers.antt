use Rattle.std.proofs.Common.{◌≡◌, ◌+◌, refl, ap, subst, take, take_all, arith}
use Rattle.loose_methods.specs.Loose.{allows, all_allow}
use Rattle.loose_methods.specs.Sifting.{Sifts}
use Rattle.loose_methods.proofs.Allowed.{insns_more}
use Rattle.loose_methods.proofs.Sifts.{sifts_none, sifts_same, sifts_then}
use Rattle.loose_methods.proofs.calls.Sifter.judge_insns.Goals as goal

pub loop-position-init : goal.loop-position-init
loop-position-init c = λ o j s few. sifts_none c.args.self.now.judged.program.now o _ c.args.marks.now s (λ n m. refl)

pub loop-position-preserved : goal.loop-position-preserved
loop-position-preserved c = λ o j s few.
    let p = c.args.self.now.judged.program.now in
    let facts = c.args.self.now.facts.now in
    let admitted = c.args.self.now.admitted.now in
    let at = c.args.at in
    let is = c.args.insns.now in
    let i = c.loop-position.position in
    let lt = c.loop-position-test.true in
    let word : c.word.result ≡ i = c.word.ensures (omega (arith, lt, few)) in
    let was = c.loop-position.invariant o j s few in
    sifts_then p o (λ n. all_allow p facts admitted n at.class at.number 0 (take i is)) (λ n. allows p facts admitted n at.class at.number i c.index-insns-position.result) (λ n. all_allow p facts admitted n at.class at.number 0 (take (i + 1) is)) c.args.marks.now c.loop-position.marks c.judge_insn.new.marks s was
    (subst (λ k. Sifts p o (λ n. allows p facts admitted n at.class at.number k c.index-insns-position.result) c.loop-position.marks c.judge_insn.new.marks) word (c.in_ok-judge_insn.ensures o j was.sifted))
    (λ n m. insns_more p facts admitted n at.class at.number is i c.index-insns-position.result lt c.index-insns-position.is)

pub returns : goal.returns
returns c = λ o j s few.
    let p = c.args.self.now.judged.program.now in
    let at = c.args.at in
    sifts_same p o _ _ c.args.marks.now c.loop-position.marks (c.loop-position.invariant o j s few) (λ n m. ap (all_allow p c.args.self.now.facts.now c.args.self.now.admitted.now n at.class at.number 0) (take_all c.loop-position.position c.args.insns.now c.loop-position-test.false))
