use Rattle.std.proofs.Common.{sym}
use Rattle.call_targets.proofs.Naming.{insn_called}
use Rattle.call_targets.proofs.named.Named.add_insn.Goals as goal

pub returns-in_ok-add-in-Some : goal.returns-in_ok-add-in-Some
returns-in_ok-add-in-Some c = λ few are.
    insn_called c.args.at.now.program.now c.args.self.now c.add.new.self c.args.insn.now c.in-Some.call.0 c.in-Some.call.1 (sym c.in-Some.ensures) (c.in_ok-add-in-Some.ensures few are)
