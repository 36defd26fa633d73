use Rattle.std.proofs.Common.{◌≡◌, ◌++◌, drop}
use Rattle.splice.specs.Shifted.{place_in}
use Rattle.splice.specs.Pieces.{copies_from}
use Rattle.splice.proofs.pieces.push_copies.Given as goal

abbrev pub invariant-loop-position : goal.invariant-loop-position
invariant-loop-position l = l.pieces.items ++ copies_from l.spot.shift l.spot.taken l.spot.end (place_in l.places) l.callee.method.now l.spot.line l.position (drop l.position l.insns)
    ≡ l.initial.pieces.items ++ copies_from l.spot.shift l.spot.taken l.spot.end (place_in l.places) l.callee.method.now l.spot.line 0 l.insns
