use Rattle.std.proofs.Common.{◌≡◌, take, sum_by}
use Rattle.program_model.specs.Cells.{capped}
use Rattle.program_model.specs.Items.{mark_items}
use Rattle.static_protos.proofs.items.count_each_mark.Given as goal

abbrev pub invariant-loop-mark : goal.invariant-loop-mark
invariant-loop-mark l = l.total ≡ capped (sum_by mark_items (take l.mark-index l.marks))
