-- The cells of a program: how much room its analysis may take.
use Rattle.std.specs.Prelude.{ℕ, ◌+◌, ◌*◌, ◌-◌, ◌^◌, min, List, length, sum_by, Some, None}
use Rattle.insn_set.specs.declared.form.Insn.{Insn}
use Rattle.insn_set.specs.declared.form.Insn.TheVariants.{FillArray, PackedSwitch, SparseSwitch}
use Rattle.program_model.specs.declared.body.Body.{Body}
use Rattle.program_model.specs.declared.program.Method.{Method}
use Rattle.program_model.specs.declared.program.Class.{Class}
use Rattle.program_model.specs.declared.program.Program.{Program}

-- the number, or the greatest one of 64 bits where it is greater
abbrev pub capped : ℕ → ℕ
capped n = min n (2 ^ 64 - 1)

-- the entries of a switch's or an array's table
abbrev pub entries_of : Insn → ℕ
entries_of (FillArray on width items) = length items
entries_of (PackedSwitch on first targets) = length targets
entries_of (SparseSwitch on keys targets) = length targets
entries_of insn = 0

-- a cell for each register and position, one more for each position, and one for each entry of a table
abbrev pub body_cells : Body → ℕ
body_cells body = (body.registers + 1) * length body.insns + sum_by entries_of body.insns

abbrev pub method_cells : Method → ℕ
method_cells method = elim method.body [ Some body ↦ body_cells body | None ↦ 0 ]

abbrev pub class_cells : Class → ℕ
class_cells class = sum_by method_cells class.methods

abbrev pub cells_of : Program → ℕ
cells_of program = sum_by class_cells program.classes
