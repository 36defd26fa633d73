use Rattle.std.proofs.Common.{◌≡◌, ◌<◌, ℕ, Some, false, length, take}
use Rattle.std.specs.Prelude.{◌&&◌, slice_get}
use Rattle.std.specs.List.{list_any}
use Rattle.program_model.specs.declared.pools.MethodName.{MethodName}
use Rattle.class_defs.specs.Places.{is_under}
use Rattle.hierarchy.specs.Naming.{IsKey}
use Rattle.loose_methods.specs.Asked.{IsJudged}
use Rattle.loose_methods.specs.Marking.{AreUnder, keeps_from}
use Rattle.loose_methods.proofs.candidates.Judged.is_kept_from.Given as goal

abbrev pub invariant-loop-definer : goal.invariant-loop-definer
invariant-loop-definer l = (q : MethodName) → IsJudged l.self → IsKey l.self.program.now l.self.hierarchy.now l.key q.name q.proto → AreUnder l.self.program.now l.place.class l.place.under.now
    → ((k c : ℕ) → slice_get l.definers k ≡ Some c → c < length l.self.program.now.classes)
    → list_any (λ u. keeps_from l.self.program.now q l.place.class u && list_any (λ d. is_under l.self.program.now d u) l.place.under.now) (take l.definer-index l.definers) ≡ false
