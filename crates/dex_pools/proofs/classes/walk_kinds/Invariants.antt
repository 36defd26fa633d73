use Rattle.std.proofs.Common.{◌≡◌, take}
use Rattle.std.specs.List.{flat_map}
use Rattle.dex_pools.specs.Used.{marked, kind_names}
use Rattle.dex_pools.proofs.classes.walk_kinds.Given as goal

abbrev pub invariant-loop-kind : goal.invariant-loop-kind
invariant-loop-kind l = l.used ≡ marked l.fn.used (flat_map kind_names (take l.kind-index l.kinds))
