use Rattle.std.proofs.Common.{◌≡◌, map, take, drop, ◌++◌}
use Rattle.body_edit.specs.Places.{place_in}
use Rattle.body_edit.proofs.targets.move_targets.Given as goal

abbrev pub invariant-loop-target : goal.invariant-loop-target
invariant-loop-target l = l.targets ≡ map (place_in l.places) (take l.target-index l.initial.targets) ++ drop l.target-index l.initial.targets
