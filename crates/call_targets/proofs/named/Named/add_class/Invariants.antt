use Rattle.std.proofs.Common.{◌≤◌, length}
use Rattle.call_targets.specs.Called.{AreSeen, NotesBy, AmongMethods}
use Rattle.call_targets.proofs.named.Named.add_class.Given as goal

abbrev pub invariant-loop-method : goal.invariant-loop-method
invariant-loop-method l = length l.at.program.now.methods ≤ 65536 → AreSeen l.at.program.now l.fn.self → NotesBy l.at.program.now (AmongMethods l.live l.method-index l.class.methods) l.fn.self l.self
