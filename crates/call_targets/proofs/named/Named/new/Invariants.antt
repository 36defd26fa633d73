use Rattle.std.proofs.Common.{◌≤◌, length}
use Rattle.call_targets.specs.Called.{NotesBy, AmongClasses}
use Rattle.call_targets.proofs.named.Named.new.Given as goal

abbrev pub invariant-loop-class : goal.invariant-loop-class
invariant-loop-class l = length l.at.program.now.methods ≤ 65536 → NotesBy l.at.program.now (AmongClasses l.live l.class-index l.at.program.now.classes) l.initial.named l.named
