use Rattle.std.proofs.Common.{◌≡◌, take, sum_by}
use Rattle.program_model.specs.Cells.{capped, entries_of}
use Rattle.program_model.proofs.cells.all_entries.Given as goal

abbrev pub invariant-loop-insn : goal.invariant-loop-insn
invariant-loop-insn l = l.total ≡ capped (sum_by entries_of (take l.insn-index l.insns))
