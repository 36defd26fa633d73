use Rattle.std.proofs.Common.{◌≡◌, drop}
use Rattle.code_read.specs.Marks.{set_targets}
use Rattle.code_read.proofs.marks.mark_targets.Given as goal

abbrev pub invariant-loop-insn : goal.invariant-loop-insn
invariant-loop-insn l = set_targets l.marks (drop l.insn-index l.insns) ≡ set_targets l.initial.marks l.insns
