use Rattle.std.proofs.Common.{◌≤◌, length, take}
use Rattle.call_targets.specs.Called.{AreSeen, NotesBy, AmongInsns}
use Rattle.call_targets.proofs.named.Named.add_body.Given as goal

abbrev pub invariant-loop-insn : goal.invariant-loop-insn
invariant-loop-insn l = length l.at.program.now.methods ≤ 65536 → AreSeen l.at.program.now l.fn.self → NotesBy l.at.program.now (AmongInsns (take l.insn-index l.body.insns)) l.fn.self l.self
