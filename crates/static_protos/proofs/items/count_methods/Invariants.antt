use Rattle.std.proofs.Common.{◌≡◌, take, sum_by}
use Rattle.program_model.specs.Cells.{capped}
use Rattle.program_model.specs.Items.{method_items}
use Rattle.static_protos.proofs.items.count_methods.Given as goal

abbrev pub invariant-loop-method : goal.invariant-loop-method
invariant-loop-method l = l.total ≡ capped (sum_by method_items (take l.method-index l.methods))
