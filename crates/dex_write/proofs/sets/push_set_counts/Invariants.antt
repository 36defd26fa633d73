use Rattle.std.proofs.Common.{◌≡◌, ◌++◌, take, map, length}
use Rattle.dex_write.proofs.sets.push_set_counts.Given as goal

abbrev pub invariant-loop-set : goal.invariant-loop-set
invariant-loop-set l = l.counts.items ≡ l.fn.counts.items ++ map length (take l.set-index l.sets)
