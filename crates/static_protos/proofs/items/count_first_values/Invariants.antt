use Rattle.std.proofs.Common.{◌≡◌, drop}
use Rattle.program_model.specs.Items.{first_items_from}
use Rattle.static_protos.proofs.items.count_first_values.Given as goal

abbrev pub invariant-loop-place : goal.invariant-loop-place
invariant-loop-place l = first_items_from l.count l.place (drop l.place l.fields) ≡ first_items_from 0 0 l.fields
