use Rattle.std.proofs.Common.{◌≡◌, ◌+◌, ◌*◌, true, take}
use Rattle.std.specs.List.{list_all}
use Rattle.program_model.specs.ValueRules.{element_fits, value_fits}
use Rattle.program_model.proofs.value_rules.+fits.Given as goal

-- by the depth that is left, and then each function above those that it calls
abbrev pub decreases-value_fits : goal.decreases-value_fits
decreases-value_fits l = 10 * l.depth

abbrev pub decreases-names_fit : goal.decreases-names_fit
decreases-names_fit l = 10 * l.depth + 5

abbrev pub decreases-values_fit : goal.decreases-values_fit
decreases-values_fit l = 10 * l.depth + 1

abbrev pub decreases-note_fits : goal.decreases-note_fits
decreases-note_fits l = 10 * l.depth + 4

abbrev pub decreases-elements_fit : goal.decreases-elements_fit
decreases-elements_fit l = 10 * l.depth + 2

abbrev pub decreases-element_fits : goal.decreases-element_fits
decreases-element_fits l = 10 * l.depth + 1

abbrev pub invariant-values_fit-loop-value : goal.invariant-values_fit-loop-value
invariant-values_fit-loop-value l = list_all (value_fits l.depth l.program) (take l.value-index l.values) ≡ true

abbrev pub invariant-elements_fit-loop-element : goal.invariant-elements_fit-loop-element
invariant-elements_fit-loop-element l = list_all (element_fits (value_fits l.depth l.program) l.program) (take l.element-index l.elements) ≡ true
