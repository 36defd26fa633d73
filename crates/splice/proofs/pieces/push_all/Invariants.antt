use Rattle.std.proofs.Common.{◌≡◌, ◌++◌, map}
use Rattle.splice.specs.Pieces.{piece_of}
use Rattle.splice.proofs.pieces.push_all.Given as goal

abbrev pub invariant-loop-insn : goal.invariant-loop-insn
invariant-loop-insn l = l.pieces.items ≡ l.initial.pieces.items ++ map (piece_of l.method l.position l.line) l.yielded
