use Rattle.std.proofs.Common.{◌≡◌, drop}
use Rattle.dex_write.specs.Sets.{ends_at}
use Rattle.dex_write.proofs.sets.ends_at.Given as goal

abbrev pub invariant-loop-count : goal.invariant-loop-count
invariant-loop-count l = ends_at l.next (drop l.count-index l.counts) ≡ ends_at l.at l.counts
