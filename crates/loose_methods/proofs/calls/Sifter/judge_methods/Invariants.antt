use Rattle.std.proofs.Common.{take}
use Rattle.program_model.specs.declared.pass.Outside.{Outside}
use Rattle.loose_methods.specs.Asked.{IsJudged}
use Rattle.loose_methods.specs.Loose.{methods_allow}
use Rattle.loose_methods.specs.Sifting.{IsSifted, Sifts, AreShortCodes}
use Rattle.loose_methods.proofs.calls.Sifter.judge_methods.Given as goal

abbrev pub invariant-loop-method : goal.invariant-loop-method
invariant-loop-method l = (o : Outside) → IsJudged l.self.judged → IsSifted l.self.judged.program.now o l.initial.marks → AreShortCodes l.methods
    → Sifts l.self.judged.program.now o (λ n. methods_allow l.self.judged.program.now l.self.facts.now l.self.admitted.now n l.class (take l.method-index l.methods)) l.initial.marks l.marks
