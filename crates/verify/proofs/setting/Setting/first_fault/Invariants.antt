use Rattle.verify.specs.Faults.{NoneBreaks}
use Rattle.verify.proofs.setting.Setting.first_fault.Given as goal

abbrev pub invariant-loop-position : goal.invariant-loop-position
invariant-loop-position l = NoneBreaks l.self l.insns l.states l.position
