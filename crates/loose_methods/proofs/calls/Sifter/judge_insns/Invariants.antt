use Rattle.std.proofs.Common.{◌<◌, ◌^◌, length, take}
use Rattle.program_model.specs.declared.pass.Outside.{Outside}
use Rattle.loose_methods.specs.Asked.{IsJudged}
use Rattle.loose_methods.specs.Loose.{all_allow}
use Rattle.loose_methods.specs.Sifting.{IsSifted, Sifts}
use Rattle.loose_methods.proofs.calls.Sifter.judge_insns.Given as goal

abbrev pub invariant-loop-position : goal.invariant-loop-position
invariant-loop-position l = (o : Outside) → IsJudged l.self.judged → IsSifted l.self.judged.program.now o l.initial.marks → length l.insns < 2 ^ 32
    → Sifts l.self.judged.program.now o (λ n. all_allow l.self.judged.program.now l.self.facts.now l.self.admitted.now n l.at.class l.at.number 0 (take l.position l.insns)) l.initial.marks l.marks
