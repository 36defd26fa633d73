use Rattle.std.proofs.Common.{◌≡◌, ◌++◌, take}
use Rattle.std.specs.List.{flat_map}
use Rattle.call_graph.specs.Names.{insn_names}
use Rattle.call_graph.proofs.named.add_insns.Given as goal

abbrev pub invariant-loop-insn : goal.invariant-loop-insn
invariant-loop-insn l = l.out.items ≡ l.initial.out.items ++ flat_map insn_names (take l.insn-index l.insns)
