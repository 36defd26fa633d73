use Rattle.std.proofs.Common.{length}
use Rattle.dex_base.proofs.AdlerLemmas.{HasParts}
use Rattle.dex_base.proofs.checksum.adler.Given as goal

abbrev pub invariant-loop-rest : goal.invariant-loop-rest
invariant-loop-rest l = HasParts l.bytes l.sums.0 l.sums.1 l.rest

abbrev pub decreases-loop-rest : goal.decreases-loop-rest
decreases-loop-rest l = length l.rest
