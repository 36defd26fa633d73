-- How many members and instructions a program has.
use Rattle.std.specs.Prelude.{ℕ, ◌+◌, ◌-◌, ◌^◌, min, length, sum_by, Some, None}
use Rattle.program_model.specs.declared.program.Method.{Method}
use Rattle.program_model.specs.declared.program.Class.{Class}
use Rattle.program_model.specs.declared.program.Program.{Program}

abbrev pub class_members : Class → ℕ
class_members class = length class.fields + length class.methods

-- the fields and methods that are defined
abbrev pub members_of : Program → ℕ
members_of program = sum_by class_members program.classes

abbrev pub method_insns : Method → ℕ
method_insns method = elim method.body [ Some body ↦ length body.insns | None ↦ 0 ]

abbrev pub class_insns : Class → ℕ
class_insns class = sum_by method_insns class.methods

-- the instructions of all bodies
abbrev pub insns_of : Program → ℕ
insns_of program = sum_by class_insns program.classes

-- the number, or the greatest one of 32 bits where it is greater
abbrev pub counted : ℕ → ℕ
counted n = min n (2 ^ 32 - 1)
