use Rattle.std.proofs.Common.{◌≡◌, take, sum_by}
use Rattle.program_model.specs.Cells.{capped}
use Rattle.program_model.specs.Items.{class_items}
use Rattle.static_protos.proofs.items.count_classes.Given as goal

abbrev pub invariant-loop-class : goal.invariant-loop-class
invariant-loop-class l = l.total ≡ capped (sum_by class_items (take l.class-index l.classes))
