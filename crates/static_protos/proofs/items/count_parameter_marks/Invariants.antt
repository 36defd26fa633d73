use Rattle.std.proofs.Common.{◌≡◌, take, sum_by}
use Rattle.program_model.specs.Cells.{capped}
use Rattle.program_model.specs.Items.{marks_items}
use Rattle.static_protos.proofs.items.count_parameter_marks.Given as goal

abbrev pub invariant-loop-marks : goal.invariant-loop-marks
invariant-loop-marks l = l.total ≡ capped (sum_by marks_items (take l.marks-index l.method.parameter_marks))
