use Rattle.std.proofs.Common.{◌≡◌, ◌<◌, ℕ, Some, false, length, take}
use Rattle.std.specs.Prelude.{slice_get}
use Rattle.std.specs.List.{list_any}
use Rattle.class_defs.specs.Places.{is_under}
use Rattle.loose_methods.specs.Asked.{IsJudged}
use Rattle.loose_methods.proofs.candidates.Judged.is_any_under.Given as goal

abbrev pub invariant-loop-class : goal.invariant-loop-class
invariant-loop-class l = IsJudged l.self → ((k c : ℕ) → slice_get l.classes k ≡ Some c → c < length l.self.program.now.classes) → l.upper < length l.self.program.now.classes
    → list_any (λ d. is_under l.self.program.now d l.upper) (take l.class-index l.classes) ≡ false
