use Rattle.std.proofs.Common.{refl, get_or}
use Rattle.dex_write.proofs.MarkLemmas.{added_take}
use Rattle.dex_write.proofs.TakeLemmas.{by_itself}
use Rattle.dex_write.proofs.marks.push_places.Goals as goal

pub loop-place-preserved : goal.loop-place-preserved
loop-place-preserved c = added_take c.args.numbers.now _ c.args.places.now c.loop-place.place-index (get_or c.args.places.now c.loop-place.place-index (0, 0)) _ _ _ _ _ _ _ c.loop-place-test.true (by_itself c.args.places.now c.loop-place.place-index (0, 0) c.loop-place-test.true) refl c.loop-place.invariant c.in_ok-push_at.ensures
