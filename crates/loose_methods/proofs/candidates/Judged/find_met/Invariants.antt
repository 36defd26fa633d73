use Rattle.std.proofs.Common.{◌≡◌, ◌<◌, ℕ, Some, false, length, take}
use Rattle.std.specs.Prelude.{slice_get}
use Rattle.std.specs.List.{list_any}
use Rattle.program_model.specs.declared.pools.MethodName.{MethodName}
use Rattle.hierarchy.specs.Naming.{IsKey}
use Rattle.loose_methods.specs.Asked.{IsJudged}
use Rattle.loose_methods.specs.Sifting.{find_met}
use Rattle.loose_methods.proofs.candidates.Judged.find_met.Given as goal

abbrev pub invariant-loop-class : goal.invariant-loop-class
invariant-loop-class l = (q : MethodName) → IsJudged l.self → IsKey l.self.program.now l.self.hierarchy.now l.key q.name q.proto → l.kind ≡ q.class
    → ((k c : ℕ) → slice_get l.under k ≡ Some c → c < length l.self.program.now.classes) → list_any (find_met l.self.program.now q l.at) (take l.class-index l.under) ≡ false
