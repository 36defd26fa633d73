use Rattle.std.proofs.Common.{length, drop, sym, ap, ◌∙◌}
use Rattle.std.proofs.lemmas.List.{take-append-drop}
use Rattle.dex_base.proofs.AdlerLemmas.{HasParts-none, HasParts-more, HasParts-done}
use Rattle.dex_base.proofs.checksum.adler.Goals as goal

pub loop-rest-init : goal.loop-rest-init
loop-rest-init c = HasParts-none c.args.bytes.now

pub loop-rest-preserved : goal.loop-rest-preserved
loop-rest-preserved c =
    HasParts-more c.args.bytes.now c.loop-rest.sums.0 c.loop-rest.sums.1 _ _ c.loop-rest.rest.now c.split_at.result.0.now c.split_at.result.1.now c.loop-rest.invariant
    (rw (c.split_at.ensures.front, c.split_at.ensures.back) (take-append-drop 65536 c.loop-rest.rest.now)) c.sums_behind-sums.ensures.first c.sums_behind-sums.ensures.second

pub returns : goal.returns
returns c = HasParts-done c.args.bytes.now c.loop-rest.sums.0 c.loop-rest.sums.1 _ _ c.loop-rest.rest.now c.loop-rest.invariant c.sums_behind-s1.ensures.first c.sums_behind-s1.ensures.second
