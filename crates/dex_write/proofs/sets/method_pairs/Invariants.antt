use Rattle.std.proofs.Common.{◌≡◌, ◌++◌, drop}
use Rattle.dex_write.specs.Sets.{method_pairs}
use Rattle.dex_write.proofs.sets.method_pairs.Given as goal

abbrev pub invariant-loop-i : goal.invariant-loop-i
invariant-loop-i l = l.pairs.items ++ method_pairs (drop l.i l.methods) l.i l.offsets ≡ method_pairs l.methods 0 l.offsets
