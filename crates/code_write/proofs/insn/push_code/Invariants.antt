use Rattle.std.proofs.Common.{◌≡◌, ◌≤◌, ◌++◌, drop}
use Rattle.code_write.specs.Code.{spots_of, code_text}
use Rattle.code_write.proofs.insn.push_code.Given as goal

abbrev pub invariant-loop-at : goal.invariant-loop-at
invariant-loop-at l = record {
  text : l.out.items ++ code_text l.numbers (spots_of l.layout) l.at l.payload (drop l.at l.insns) ≡ l.fn.out.items ++ code_text l.numbers (spots_of l.layout) 0 0 l.insns;
  few : l.payload ≤ l.at;
}
