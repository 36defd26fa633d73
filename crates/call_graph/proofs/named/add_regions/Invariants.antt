use Rattle.std.proofs.Common.{◌≡◌, ◌++◌, take}
use Rattle.std.specs.List.{flat_map}
use Rattle.call_graph.specs.Names.{region_names}
use Rattle.call_graph.proofs.named.add_regions.Given as goal

abbrev pub invariant-loop-region : goal.invariant-loop-region
invariant-loop-region l = l.out.items ≡ l.initial.out.items ++ flat_map region_names (take l.region-index l.regions)
