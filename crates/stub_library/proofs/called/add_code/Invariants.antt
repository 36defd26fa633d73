use Rattle.std.proofs.Common.{◌≡◌, ◌++◌, take}
use Rattle.std.specs.List.{flat_map}
use Rattle.stub_library.specs.Calling.{keys_of_insn}
use Rattle.stub_library.proofs.called.add_code.Given as goal

abbrev pub invariant-loop-insn : goal.invariant-loop-insn
invariant-loop-insn l = l.out.items ≡ l.initial.out.items ++ flat_map (keys_of_insn l.program l.hierarchy) (take l.insn-index l.insns)
