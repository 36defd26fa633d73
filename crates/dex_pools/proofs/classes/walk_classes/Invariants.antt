use Rattle.std.proofs.Common.{◌≡◌, take}
use Rattle.std.specs.List.{flat_map}
use Rattle.dex_pools.specs.Used.{marked, class_names}
use Rattle.dex_pools.proofs.classes.walk_classes.Given as goal

abbrev pub invariant-loop-class : goal.invariant-loop-class
invariant-loop-class l = l.used ≡ marked l.fn.used (flat_map class_names (take l.class-index l.classes))
