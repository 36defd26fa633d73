use Rattle.std.proofs.Common.{◌≡◌, length}
use Rattle.program_model.specs.declared.pass.Outside.{Outside}
use Rattle.loose_methods.specs.Asked.{IsJudged, CandidatesTo}
use Rattle.loose_methods.specs.Candidates.{is_kept}
use Rattle.loose_methods.specs.Loose.{is_outward}
use Rattle.loose_methods.specs.Marking.{IsTable}
use Rattle.loose_methods.proofs.candidates.Judged.mark_classes.Given as goal

abbrev pub invariant-loop-place : goal.invariant-loop-place
invariant-loop-place l = (o : Outside) → IsJudged l.self → IsTable (length l.self.program.now.methods) (is_kept o) l.kept → IsTable (length l.self.program.now.classes) (is_outward l.self.program.now) l.outward
    → l.classes ≡ l.self.program.now.classes → CandidatesTo l.self.program.now o 0 l.initial.marks → CandidatesTo l.self.program.now o l.place l.marks
