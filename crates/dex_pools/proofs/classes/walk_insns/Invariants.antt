use Rattle.std.proofs.Common.{◌≡◌, take}
use Rattle.std.specs.List.{flat_map}
use Rattle.dex_pools.specs.Used.{marked, insn_names}
use Rattle.dex_pools.proofs.classes.walk_insns.Given as goal

abbrev pub invariant-loop-insn : goal.invariant-loop-insn
invariant-loop-insn l = l.used ≡ marked l.fn.used (flat_map insn_names (take l.insn-index l.insns))
