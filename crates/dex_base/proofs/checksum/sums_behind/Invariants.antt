use Rattle.dex_base.proofs.AdlerLemmas.{HasSums}
use Rattle.dex_base.proofs.checksum.sums_behind.Given as goal

abbrev pub invariant-loop-byte : goal.invariant-loop-byte
invariant-loop-byte l = HasSums l.first l.second l.part l.byte-index l.s1 l.s2
