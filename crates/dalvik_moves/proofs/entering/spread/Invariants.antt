use Rattle.std.proofs.Common.{◌≡◌, take}
use Rattle.dalvik_moves.specs.Moving.{datums_of, spread_in}
use Rattle.dalvik_moves.proofs.entering.spread.Given as goal

abbrev pub invariant-loop-one : goal.invariant-loop-one
invariant-loop-one l = l.registers.items ≡ spread_in (datums_of (take l.one-index l.taken))
