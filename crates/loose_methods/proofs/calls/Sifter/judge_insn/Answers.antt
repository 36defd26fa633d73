use Rattle.std.proofs.Common.{◌∙◌, ap, false, subst, sym}
use Rattle.std.specs.Prelude.{◌&&◌, slice_get, slice_index_or}
use Rattle.lemmas.proofs.Bools.{and_false}
use Rattle.loose_methods.specs.Loose.{allows, has_receiver}
use Rattle.loose_methods.specs.Sifting.{Sifts}
use Rattle.loose_methods.proofs.Sifts.{call_allows, others_allow, sifts_none, sifts_same}
use Rattle.loose_methods.proofs.calls.Sifter.judge_insn.Goals as goal

pub returns-in_ok-judge-in-Invoke : goal.returns-in_ok-judge-in-Invoke
returns-in_ok-judge-in-Invoke c = λ o j s.
    let p = c.args.self.now.judged.program.now in
    let facts = c.args.self.now.facts.now in
    let admitted = c.args.self.now.admitted.now in
    let at = c.args.at in
    let kind = c.in-Invoke.kind in
    let called = c.in-Invoke.method in
    let args = c.in-Invoke.args in
    subst (λ i. Sifts p o (λ n. allows p facts admitted n at.class at.number c.args.position i) c.args.marks.now c.judge.new.marks) (sym c.in-Invoke.is)
    (sifts_same p o _ _ c.args.marks.now c.judge.new.marks
    (c.in_ok-judge-in-Invoke.ensures o j s (λ k. c.is_safe.ensures ∙ (ap (λ x. slice_index_or admitted at.number false && has_receiver facts at.number c.args.position x args) k ∙ and_false (slice_index_or admitted at.number false))))
    (λ n m. call_allows p facts admitted n at.class at.number c.args.position kind called args (slice_get p.methods called) c.is_safe.result c.is_safe.ensures))

pub returns-in_default : goal.returns-in_default
returns-in_default c = λ o j s.
    let p = c.args.self.now.judged.program.now in
    let at = c.args.at in
    sifts_none p o _ c.args.marks.now s (λ n m. others_allow p c.args.self.now.facts.now c.args.self.now.admitted.now n at.class at.number c.args.position c.args.insn.now c.in_default.not-Invoke)
