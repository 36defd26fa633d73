-- Through how many Moves what a program reads went.
use Rattle.std.specs.Prelude.{ℕ, zero, suc, ◌+◌, List, sum_by, length, Option, Some, None}
use Rattle.insn_set.specs.declared.form.Insn.{Insn}
use Rattle.program_model.specs.declared.body.Body.{Body}
use Rattle.program_model.specs.declared.program.Method.{Method}
use Rattle.program_model.specs.declared.program.Class.{Class}
use Rattle.program_model.specs.declared.program.Program.{Program}
use Rattle.insn_regs.specs.Remade.{operands_of}
use Rattle.body_graph.specs.Walks.{insn_at}
use Rattle.moves_law.specs.Histories.{Step, moves}
use Rattle.moves_law.specs.Paths.{path_to}

-- through how many Moves what an instruction reads went in all, along a path to it
abbrev pub moved_along : Body → Option (List Step) → Option Insn → ℕ
moved_along b (Some ss) (Some f) = sum_by (moves b ss) (operands_of f)
moved_along b path insn = 0

abbrev pub moves_at : Body → ℕ → ℕ
moves_at b n = moved_along b (path_to b n) (insn_at b n)

-- that of the first instructions
abbrev pub moves_below : Body → ℕ → ℕ
moves_below b zero = 0
moves_below b (suc n) = moves_below b n + moves_at b n

abbrev pub body_moves : Option Body → ℕ
body_moves None = 0
body_moves (Some b) = moves_below b (length b.insns)

abbrev pub method_moves : Method → ℕ
method_moves m = body_moves m.body

abbrev pub class_moves : Class → ℕ
class_moves c = sum_by method_moves c.methods

-- that of all bodies
abbrev pub moves_in : Program → ℕ
moves_in p = sum_by class_moves p.classes
