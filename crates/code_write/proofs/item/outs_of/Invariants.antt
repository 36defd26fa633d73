use Rattle.std.proofs.Common.{◌≡◌, max, drop}
use Rattle.code_write.specs.Items.{outs_of}
use Rattle.code_write.proofs.item.outs_of.Given as goal

abbrev pub invariant-loop-insn : goal.invariant-loop-insn
invariant-loop-insn l = max l.most (outs_of (drop l.insn-index l.insns)) ≡ outs_of l.insns
