use Rattle.std.proofs.Common.{◌≡◌, ◌++◌, drop}
use Rattle.dex_write.specs.Sets.{offsets_at}
use Rattle.dex_write.proofs.sets.offsets_at.Given as goal

abbrev pub invariant-loop-count : goal.invariant-loop-count
invariant-loop-count l = l.offsets.items ++ offsets_at l.next (drop l.count-index l.counts) ≡ offsets_at l.at l.counts
