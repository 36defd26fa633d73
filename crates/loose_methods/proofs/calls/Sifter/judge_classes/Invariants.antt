use Rattle.std.proofs.Common.{◌≡◌, ◌<◌, ◌^◌, ℕ, Some, length, take}
use Rattle.std.specs.Prelude.{slice_get}
use Rattle.program_model.specs.declared.pass.Outside.{Outside}
use Rattle.program_model.specs.declared.program.Class.{Class}
use Rattle.loose_methods.specs.Asked.{IsJudged}
use Rattle.loose_methods.specs.Loose.{classes_allow}
use Rattle.loose_methods.specs.Sifting.{IsSifted, Sifts, AreShortCodes}
use Rattle.loose_methods.proofs.calls.Sifter.judge_classes.Given as goal

abbrev pub invariant-loop-class : goal.invariant-loop-class
invariant-loop-class l = (o : Outside) → IsJudged l.self.judged → IsSifted l.self.judged.program.now o l.initial.marks → length l.classes < 2 ^ 32 → ((i : ℕ) (k : Class) → slice_get l.classes i ≡ Some k → AreShortCodes k.methods)
    → Sifts l.self.judged.program.now o (λ n. classes_allow l.self.judged.program.now l.self.facts.now l.self.admitted.now n 0 (take l.class l.classes)) l.initial.marks l.marks
