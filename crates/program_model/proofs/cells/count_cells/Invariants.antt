use Rattle.std.proofs.Common.{◌≡◌, take, sum_by}
use Rattle.program_model.specs.Cells.{capped, class_cells}
use Rattle.program_model.proofs.cells.count_cells.Given as goal

abbrev pub invariant-loop-class : goal.invariant-loop-class
invariant-loop-class l = l.total ≡ capped (sum_by class_cells (take l.class-index l.program.classes))
