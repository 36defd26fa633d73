use Rattle.std.proofs.Common.{◌≡◌, map, take, drop, ◌++◌}
use Rattle.pass_defs.specs.Thinned.{region_moved}
use Rattle.splice.specs.Shifted.{place_in}
use Rattle.splice.proofs.copying.move_regions.Given as goal

abbrev pub invariant-loop-region : goal.invariant-loop-region
invariant-loop-region l = l.regions ≡ map (region_moved (place_in l.places)) (take l.region-index l.initial.regions) ++ drop l.region-index l.initial.regions
