use Rattle.std.proofs.Common.{◌≡◌, ◌+◌, ◌*◌, take, sum_by}
use Rattle.program_model.specs.Cells.{capped}
use Rattle.program_model.specs.Items.{element_items, value_items}
use Rattle.static_protos.proofs.items.+counts.Given as goal

-- by the depth that is left, and then each function above those that it calls
abbrev pub decreases-count_value : goal.decreases-count_value
decreases-count_value l = 10 * l.depth

abbrev pub decreases-count_layer : goal.decreases-count_layer
decreases-count_layer l = 10 * l.depth + 5

abbrev pub decreases-count_values : goal.decreases-count_values
decreases-count_values l = 10 * l.depth + 1

abbrev pub decreases-count_note : goal.decreases-count_note
decreases-count_note l = 10 * l.depth + 4

abbrev pub decreases-count_elements : goal.decreases-count_elements
decreases-count_elements l = 10 * l.depth + 1

abbrev pub invariant-count_values-loop-value : goal.invariant-count_values-loop-value
invariant-count_values-loop-value l = l.total ≡ capped (sum_by (value_items l.depth) (take l.value-index l.values))

abbrev pub invariant-count_elements-loop-element : goal.invariant-count_elements-loop-element
invariant-count_elements-loop-element l = l.total ≡ capped (sum_by (element_items (value_items l.depth)) (take l.element-index l.elements))
