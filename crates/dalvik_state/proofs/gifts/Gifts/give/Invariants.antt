use Rattle.std.specs.Vec.Iter.{into_iter_items}
use Rattle.dalvik_state.proofs.Handing.{IsGiving}
use Rattle.dalvik_state.proofs.gifts.Gifts.give.Given as goal

abbrev pub invariant-loop-thing : goal.invariant-loop-thing
invariant-loop-thing l = IsGiving l.fn.self l.fn.world l.world l.yielded (into_iter_items l.thing-iterator)
