use Rattle.std.proofs.Common.{◌≡◌, map, take, drop, ◌++◌}
use Rattle.splice.specs.Shifted.{place_in}
use Rattle.splice.proofs.copying.move_targets.Given as goal

abbrev pub invariant-loop-target : goal.invariant-loop-target
invariant-loop-target l = l.targets ≡ map (place_in l.places) (take l.target-index l.initial.targets) ++ drop l.target-index l.initial.targets
