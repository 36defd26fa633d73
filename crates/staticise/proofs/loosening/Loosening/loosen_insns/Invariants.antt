use Rattle.std.proofs.Common.{◌≡◌, map, take, drop, ◌++◌}
use Rattle.program_model.specs.declared.program.Program.{Program}
use Rattle.staticise.specs.Ordering.{AreTargets}
use Rattle.staticise.specs.Loosened.{insn_loosened}
use Rattle.staticise.proofs.loosening.Loosening.loosen_insns.Given as goal

abbrev pub invariant-loop-insn : goal.invariant-loop-insn
invariant-loop-insn l = (p : Program) → AreTargets p l.self.given.now l.self.targets.now → l.insns ≡ map (insn_loosened p l.self.given.now) (take l.insn-index l.initial.insns) ++ drop l.insn-index l.initial.insns
