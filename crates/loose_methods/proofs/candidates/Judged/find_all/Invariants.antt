use Rattle.std.proofs.Common.{◌≡◌, true, take}
use Rattle.std.specs.List.{list_all}
use Rattle.program_model.specs.declared.pools.MethodName.{MethodName}
use Rattle.class_defs.specs.Finding.{finds_virtual}
use Rattle.hierarchy.specs.Naming.{IsKey}
use Rattle.receivers.specs.Receiving.{is_at}
use Rattle.loose_methods.specs.Asked.{IsJudged}
use Rattle.loose_methods.proofs.candidates.Judged.find_all.Given as goal

abbrev pub invariant-loop-class : goal.invariant-loop-class
invariant-loop-class l = (q : MethodName) → IsJudged l.self → IsKey l.self.program.now l.self.hierarchy.now l.key q.name q.proto
    → list_all (λ d. is_at l.at (finds_virtual l.self.program.now q.name q.proto d)) (take l.class-index l.under) ≡ true
