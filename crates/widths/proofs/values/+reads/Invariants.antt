use Rattle.std.proofs.Common.{◌+◌, ◌*◌, take}
use Rattle.std.specs.List.{AllByRecursion}
use Rattle.widths.specs.Values.{ValueInWidth}
use Rattle.widths.proofs.values.+reads.Given as goal

-- by the depth that is left, and then each function above those that it calls
abbrev pub decreases-read_value : goal.decreases-read_value
decreases-read_value l = 10 * l.depth

abbrev pub decreases-read_layer : goal.decreases-read_layer
decreases-read_layer l = 10 * l.depth + 5

abbrev pub decreases-read_values : goal.decreases-read_values
decreases-read_values l = 10 * l.depth + 1

abbrev pub decreases-read_note : goal.decreases-read_note
decreases-read_note l = 10 * l.depth + 4

abbrev pub decreases-read_elements : goal.decreases-read_elements
decreases-read_elements l = 10 * l.depth + 1

abbrev pub invariant-read_values-loop-value : goal.invariant-read_values-loop-value
invariant-read_values-loop-value l = AllByRecursion (ValueInWidth l.depth) (take l.value-index l.values)

abbrev pub invariant-read_elements-loop-element : goal.invariant-read_elements-loop-element
invariant-read_elements-loop-element l = AllByRecursion (λ e. ValueInWidth l.depth e.value) (take l.element-index l.elements)
