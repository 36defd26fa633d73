use Rattle.std.proofs.Common.{◌≡◌, length, take, sum_by}
use Rattle.program_model.specs.Cells.{capped}
use Rattle.static_protos.proofs.tables.count_units.Given as goal

abbrev pub invariant-loop-text : goal.invariant-loop-text
invariant-loop-text l = l.count ≡ capped (sum_by length (take l.text-index l.strings))
