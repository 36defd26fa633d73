use Rattle.std.proofs.Common.{◌≡◌, false, take}
use Rattle.std.specs.List.{list_any}
use Rattle.loose_methods.specs.Asked.{IsJudged}
use Rattle.loose_methods.specs.Loose.{is_outer}
use Rattle.loose_methods.proofs.candidates.Judged.is_any_outer.Given as goal

abbrev pub invariant-loop-kind : goal.invariant-loop-kind
invariant-loop-kind l = IsJudged l.self → list_any (is_outer l.self.program.now) (take l.kind-index l.kinds) ≡ false
