use Rattle.std.proofs.Common.{◌≡◌, ◌++◌, take}
use Rattle.std.specs.List.{flat_map}
use Rattle.loose_methods.specs.Mentioned.{element_methods, value_methods}
use Rattle.loose_methods.proofs.mentions.+values.Given as goal

abbrev pub invariant-add_values-loop-value : goal.invariant-add_values-loop-value
invariant-add_values-loop-value l = l.out.items ≡ l.fn.out.items ++ flat_map value_methods (take l.value-index l.values)

abbrev pub invariant-add_elements-loop-element : goal.invariant-add_elements-loop-element
invariant-add_elements-loop-element l = l.out.items ≡ l.fn.out.items ++ flat_map element_methods (take l.element-index l.elements)
