use Rattle.std.proofs.Common.{◌≡◌, take, sum_by}
use Rattle.program_model.specs.Cells.{capped}
use Rattle.program_model.specs.Items.{proto_items}
use Rattle.static_protos.proofs.items.count_protos.Given as goal

abbrev pub invariant-loop-proto : goal.invariant-loop-proto
invariant-loop-proto l = l.total ≡ capped (sum_by proto_items (take l.proto-index l.protos))
