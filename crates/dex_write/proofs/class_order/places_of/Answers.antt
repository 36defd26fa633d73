use Rattle.dex_write.proofs.OrderLemmas.{places_end}
use Rattle.dex_write.proofs.class_order.places_of.Goals as goal

pub returns : goal.returns
returns c = places_end c.args.program.now c.loop-place.place c.loop-place.places.items c.loop-place.invariant (rw c.as_slice-class-items.ensures at c.loop-place-test.false)
