use Rattle.std.proofs.Common.{◌≡◌, take}
use Rattle.std.specs.List.{flat_map}
use Rattle.dex_pools.specs.Used.{marked, method_names}
use Rattle.dex_pools.proofs.classes.walk_methods.Given as goal

abbrev pub invariant-loop-method : goal.invariant-loop-method
invariant-loop-method l = l.used ≡ marked l.fn.used (flat_map method_names (take l.method-index l.methods))
