use Rattle.std.proofs.Common.{◌≡◌, ◌++◌, drop}
use Rattle.dex_write.specs.Sets.{lists_of}
use Rattle.dex_write.proofs.sets.lists_of.Given as goal

abbrev pub invariant-loop-count : goal.invariant-loop-count
invariant-loop-count l = l.words.items ++ lists_of l.base (drop l.count-index l.counts) l.rest ≡ lists_of l.base l.counts l.entries
