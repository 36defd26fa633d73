use Rattle.std.proofs.Common.{◌≡◌, take}
use Rattle.std.specs.List.{flat_map}
use Rattle.dex_pools.specs.Used.{marked, region_names}
use Rattle.dex_pools.proofs.classes.walk_regions.Given as goal

abbrev pub invariant-loop-region : goal.invariant-loop-region
invariant-loop-region l = l.used ≡ marked l.fn.used (flat_map region_names (take l.region-index l.regions))
