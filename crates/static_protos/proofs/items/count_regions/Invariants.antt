use Rattle.std.proofs.Common.{◌≡◌, take, sum_by}
use Rattle.program_model.specs.Cells.{capped}
use Rattle.program_model.specs.Items.{region_items}
use Rattle.static_protos.proofs.items.count_regions.Given as goal

abbrev pub invariant-loop-region : goal.invariant-loop-region
invariant-loop-region l = l.total ≡ capped (sum_by region_items (take l.region-index l.regions))
