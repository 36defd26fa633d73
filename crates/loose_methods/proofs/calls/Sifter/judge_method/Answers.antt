use Rattle.std.proofs.Common.{◌<◌, ◌^◌, length, refl, subst, sym}
use Rattle.loose_methods.specs.Loose.{all_allow, code_allows}
use Rattle.loose_methods.specs.Sifting.{IsShortCode, Sifts}
use Rattle.loose_methods.proofs.Sifts.{sifts_none}
use Rattle.loose_methods.proofs.calls.Sifter.judge_method.Goals as goal

pub returns-in_ok-judge_insns-in-Some : goal.returns-in_ok-judge_insns-in-Some
returns-in_ok-judge_insns-in-Some c = λ o j s short.
    let p = c.args.self.now.judged.program.now in
    let facts = c.args.self.now.facts.now in
    let admitted = c.args.self.now.admitted.now in
    let name = c.args.method.now.name in
    let few : length c.as_slice.result.now < 2 ^ 32 = subst (λ l. length l < 2 ^ 32) (sym c.as_slice.ensures) (subst IsShortCode c.in-Some.is short) in
    subst (λ b. Sifts p o (λ n. code_allows p facts admitted n c.args.class name b) c.args.marks.now c.judge_insns.new.marks) (sym c.in-Some.is)
    (subst (λ l. Sifts p o (λ n. all_allow p facts admitted n c.args.class name 0 l) c.args.marks.now c.judge_insns.new.marks) c.as_slice.ensures (c.in_ok-judge_insns-in-Some.ensures o j s few))

pub returns-in-None : goal.returns-in-None
returns-in-None c = λ o j s short.
    let p = c.args.self.now.judged.program.now in
    subst (λ b. Sifts p o (λ n. code_allows p c.args.self.now.facts.now c.args.self.now.admitted.now n c.args.class c.args.method.now.name b) c.args.marks.now c.args.marks.now) (sym c.in-None.is) (sifts_none p o _ c.args.marks.now s (λ n m. refl))
