use Rattle.std.proofs.Common.{length, sym}
use Rattle.code_read.specs.Checks.{targets_inside}
use Rattle.code_read.proofs.First.{none_fails}
use Rattle.code_read.proofs.read.check_targets.Goals as goal

pub returns-in-None-clause-inside : goal.returns-in-None-clause-inside
returns-in-None-clause-inside c = none_fails (λ insn. targets_inside (length c.args.insns.now) insn) c.args.insns.now (sym c.in-None.ensures)
