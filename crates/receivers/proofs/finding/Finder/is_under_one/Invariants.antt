use Rattle.std.proofs.Common.{◌≡◌, ◌<◌, ℕ, Some, false, length, take}
use Rattle.std.specs.Prelude.{slice_get}
use Rattle.std.specs.List.{list_any}
use Rattle.class_defs.specs.Places.{is_under}
use Rattle.receivers.specs.Receiving.{IsFinding}
use Rattle.receivers.proofs.finding.Finder.is_under_one.Given as goal

abbrev pub invariant-loop-other : goal.invariant-loop-other
invariant-loop-other l = IsFinding l.self → l.class < length l.self.program.now.classes → ((k x : ℕ) → slice_get l.others k ≡ Some x → x < length l.self.program.now.classes)
    → list_any (is_under l.self.program.now l.class) (take l.other-index l.others) ≡ false
