use Rattle.std.proofs.Common.{◌≡◌, ◌++◌, take}
use Rattle.dex_write.specs.Numbers.{words}
use Rattle.dex_write.specs.Sets.{pair_words}
use Rattle.dex_write.proofs.sets.push_pairs.Given as goal

abbrev pub invariant-loop-pair : goal.invariant-loop-pair
invariant-loop-pair l = l.out.items ≡ l.fn.out.items ++ words (pair_words (take l.pair-index l.pairs))
