use Rattle.std.proofs.Common.{◌≡◌, ◌≤◌, ◌+◌, drop}
use Rattle.std.specs.Prelude.{sum_by}
use Rattle.splice.specs.Shifted.{word}
use Rattle.splice.specs.Places.{copy_size}
use Rattle.splice.proofs.places.copies_size.Given as goal

abbrev pub invariant-loop-insn : goal.invariant-loop-insn
invariant-loop-insn l = record {
  within : l.size ≤ 4294967295;
  counted : word (l.size + sum_by (copy_size l.taken) (drop l.insn-index l.insns)) ≡ word (sum_by (copy_size l.taken) l.insns);
}
