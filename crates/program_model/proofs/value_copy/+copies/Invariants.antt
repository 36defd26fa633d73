use Rattle.std.proofs.Common.{◌≡◌, take}
use Rattle.program_model.proofs.value_copy.+copies.Given as goal

abbrev pub invariant-copy_elements-loop-element : goal.invariant-copy_elements-loop-element
invariant-copy_elements-loop-element l = l.out.items ≡ take l.element-index l.elements

abbrev pub invariant-copy_values-loop-value : goal.invariant-copy_values-loop-value
invariant-copy_values-loop-value l = l.out.items ≡ take l.value-index l.values
