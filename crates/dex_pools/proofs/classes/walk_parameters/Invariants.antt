use Rattle.std.proofs.Common.{◌≡◌, take}
use Rattle.std.specs.List.{flat_map}
use Rattle.dex_pools.specs.Used.{marked, marks_names}
use Rattle.dex_pools.proofs.classes.walk_parameters.Given as goal

abbrev pub invariant-loop-marks : goal.invariant-loop-marks
invariant-loop-marks l = l.used ≡ marked l.fn.used (flat_map marks_names (take l.marks-index l.parameters))
