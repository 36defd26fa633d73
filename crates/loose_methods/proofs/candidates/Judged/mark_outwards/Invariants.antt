use Rattle.std.proofs.Common.{◌≡◌}
use Rattle.loose_methods.specs.Asked.{IsJudged, Outwards}
use Rattle.loose_methods.proofs.candidates.Judged.mark_outwards.Given as goal

abbrev pub invariant-loop-place : goal.invariant-loop-place
invariant-loop-place l = IsJudged l.self → l.classes ≡ l.self.program.now.classes → Outwards l.self.program.now 0 l.initial.marks → Outwards l.self.program.now l.place l.marks
