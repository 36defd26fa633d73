use Rattle.std.proofs.Common.{◌≡◌, ◌++◌, drop}
use Rattle.splice.specs.Pieces.{pieces_from}
use Rattle.splice.proofs.pieces.Room.pieces.Given as goal

abbrev pub invariant-loop-position : goal.invariant-loop-position
invariant-loop-position l = l.pieces.items ++ pieces_from l.self.program.now l.self.caller.now l.self.insns.now l.self.chosen.now l.self.shift l.self.places.now l.position (drop l.position l.insns)
    ≡ pieces_from l.self.program.now l.self.caller.now l.self.insns.now l.self.chosen.now l.self.shift l.self.places.now 0 l.insns
