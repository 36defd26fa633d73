use Rattle.std.proofs.Common.{◌≡◌, false, take}
use Rattle.std.specs.List.{list_any}
use Rattle.verify.specs.Supers.{is_super}
use Rattle.verify.proofs.calls.has_super.Given as goal

abbrev pub invariant-loop-insn : goal.invariant-loop-insn
invariant-loop-insn l = list_any is_super (take l.insn-index l.insns) ≡ false
