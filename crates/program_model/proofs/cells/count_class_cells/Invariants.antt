use Rattle.std.proofs.Common.{◌≡◌, take, sum_by}
use Rattle.program_model.specs.Cells.{capped, method_cells}
use Rattle.program_model.proofs.cells.count_class_cells.Given as goal

abbrev pub invariant-loop-method : goal.invariant-loop-method
invariant-loop-method l = l.total ≡ capped (sum_by method_cells (take l.method-index l.class.methods))
