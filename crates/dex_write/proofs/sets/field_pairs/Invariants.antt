use Rattle.std.proofs.Common.{◌≡◌, ◌++◌, drop}
use Rattle.dex_write.specs.Sets.{field_pairs}
use Rattle.dex_write.proofs.sets.field_pairs.Given as goal

abbrev pub invariant-loop-i : goal.invariant-loop-i
invariant-loop-i l = l.pairs.items ++ field_pairs (drop l.i l.fields) l.i l.offsets ≡ field_pairs l.fields 0 l.offsets
