use Rattle.std.proofs.Common.{◌≡◌, ◌∷◌, map, take}
use Rattle.keep_rules.specs.Tried.{slashed}
use Rattle.keep_rules.proofs.names.descriptor_of.Given as goal

abbrev pub invariant-loop-unit : goal.invariant-loop-unit
invariant-loop-unit l = l.units.items ≡ 76 ∷ map slashed (take l.unit-index l.name)
