use Rattle.std.proofs.Common.{arith}
use Rattle.dex_base.proofs.AdlerLemmas.{HasSums-more}
use Rattle.dex_base.proofs.checksum.sums_behind.Goals as goal

pub loop-byte-preserved : goal.loop-byte-preserved
loop-byte-preserved c =
    rw c.from-s1.ensures (HasSums-more c.args.first c.args.second c.args.part.now c.loop-byte.byte-index c.loop-byte.s1 c.loop-byte.s2 c.loop-byte.invariant c.loop-byte-test.true c.requires.few (omega (arith, c.type_inv.part c.loop-byte.byte-index)))
