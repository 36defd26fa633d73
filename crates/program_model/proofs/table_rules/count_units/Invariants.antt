use Rattle.std.proofs.Common.{◌≡◌, take, length, sum_by}
use Rattle.program_model.specs.Cells.{capped}
use Rattle.program_model.proofs.table_rules.count_units.Given as goal

abbrev pub invariant-loop-text : goal.invariant-loop-text
invariant-loop-text l = l.total ≡ capped (sum_by length (take l.text-index l.strings))
