use Rattle.std.proofs.Common.{◌≡◌, take}
use Rattle.std.specs.List.{flat_map}
use Rattle.dex_pools.specs.Used.{marked, value_names, element_names}
use Rattle.dex_pools.proofs.walk.+walks.Given as goal

abbrev pub invariant-walk_values-loop-value : goal.invariant-walk_values-loop-value
invariant-walk_values-loop-value l = l.used ≡ marked l.fn.used (flat_map value_names (take l.value-index l.values))

abbrev pub invariant-walk_elements-loop-element : goal.invariant-walk_elements-loop-element
invariant-walk_elements-loop-element l = l.used ≡ marked l.fn.used (flat_map element_names (take l.element-index l.elements))
