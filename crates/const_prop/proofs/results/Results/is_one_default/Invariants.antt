use Rattle.std.proofs.Common.{◌≡◌, ℕ, false, take}
use Rattle.std.specs.List.{list_any}
use Rattle.const_prop.specs.Asked.{IsKnown, IsKeyOf}
use Rattle.const_prop.specs.Defaults.{is_default}
use Rattle.const_prop.proofs.results.Results.is_one_default.Given as goal

abbrev pub invariant-loop-class : goal.invariant-loop-class
invariant-loop-class l = IsKnown l.self → (name proto : ℕ) → IsKeyOf l.self l.key name proto → list_any (is_default l.self.program.now name proto) (take l.class-index l.classes) ≡ false
