-- The limits that are counted.
use Rattle.std.specs.Prelude.{ℕ}
use Rattle.program_model.specs.declared.limits.Counted.{Counted}
use Rattle.program_model.specs.declared.limits.Counted.TheVariants.{RuleBytes, FileBytes, ScriptBytes, Cells, Types, Protos, Fields, Methods, TextUnits, Items}

-- the most that a file or a text may have of it
abbrev pub limit_of : Counted → ℕ
limit_of RuleBytes = 1048576
limit_of FileBytes = 16777216
limit_of ScriptBytes = 1048576
limit_of Cells = 67108864
limit_of Types = 65535
limit_of Protos = 65535
limit_of Fields = 65536
limit_of Methods = 65536
limit_of TextUnits = 16777216
limit_of Items = 16777216
