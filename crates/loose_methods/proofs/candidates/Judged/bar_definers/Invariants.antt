use Rattle.std.proofs.Common.{◌≡◌, ◌<◌, ℕ, Some, length, take}
use Rattle.std.specs.Prelude.{slice_get}
use Rattle.program_model.specs.declared.pass.Outside.{Outside}
use Rattle.program_model.specs.declared.pools.MethodName.{MethodName}
use Rattle.hierarchy.specs.Naming.{IsKey}
use Rattle.loose_methods.specs.Asked.{IsJudged}
use Rattle.loose_methods.specs.Sifting.{HasCandidates, Keeps, unfound_in}
use Rattle.loose_methods.proofs.candidates.Judged.bar_definers.Given as goal

abbrev pub invariant-loop-class : goal.invariant-loop-class
invariant-loop-class l = (o : Outside) (q : MethodName) → IsJudged l.self → IsKey l.self.program.now l.self.hierarchy.now l.key q.name q.proto → l.kind ≡ q.class
    → ((k c : ℕ) → slice_get l.classes k ≡ Some c → c < length l.self.program.now.classes) → HasCandidates l.self.program.now o l.initial.loose
    → Keeps (unfound_in l.self.program.now q (take l.class-index l.classes)) l.initial.loose l.loose
