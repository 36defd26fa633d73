use Rattle.std.proofs.Common.{◌≡◌, Some, true, length}
use Rattle.std.specs.Prelude.{slice_get}
use Rattle.program_model.specs.declared.pass.Outside.{Outside}
use Rattle.program_model.specs.declared.program.Class.{Class}
use Rattle.loose_methods.specs.Asked.{IsJudged}
use Rattle.loose_methods.specs.Candidates.{is_plain_class, is_kept}
use Rattle.loose_methods.specs.Loose.{has_outward}
use Rattle.loose_methods.specs.Marking.{AreUnder, IsTable}
use Rattle.loose_methods.proofs.Marking.{MarkedTo}
use Rattle.loose_methods.proofs.candidates.Judged.mark_methods.Given as goal

abbrev pub invariant-loop-method : goal.invariant-loop-method
invariant-loop-method l = (o : Outside) (k : Class) → IsJudged l.self → slice_get l.self.program.now.classes l.place.class ≡ Some k → k.methods ≡ l.methods
    → is_plain_class l.self.program.now l.place.class k ≡ true → AreUnder l.self.program.now l.place.class l.place.under.now → l.place.outward ≡ has_outward l.self.program.now l.place.class
    → IsTable (length l.self.program.now.methods) (is_kept o) l.kept → length l.initial.marks ≡ length l.self.program.now.methods
    → MarkedTo l.self.program.now o l.place.class k l.method-index l.initial.marks l.marks
