use Rattle.std.proofs.Common.{take}
use Rattle.dalvik_lookups.proofs.Slotted.{one_more, from_more, after_more, from_all}
use Rattle.dalvik_lookups.proofs.slots.first_slots.Goals as goal

pub loop-class-preserved : goal.loop-class-preserved
loop-class-preserved c =
    let cs = take c.loop-class.class-index c.args.program.now.classes in
    let s = one_more c.as_slice-class-items.result.now c.args.program.now.classes c.loop-class.class-index c.class-item.result c.as_slice-class-items.ensures c.loop-class-test.true c.class-item.is in
    record {
      slots = from_more cs _ c.class-item.result c.loop-class.slots.items _ c.loop-class.next s c.loop-class.invariant.slots c.loop-class.invariant.next c.in_ok-push.ensures.items;
      next = after_more cs _ c.class-item.result c.loop-class.next _ c.len.result s c.loop-class.invariant.next c.len.ensures c.saturating_add-next.ensures;
    }

pub returns : goal.returns
returns c = from_all c.as_slice-class-items.result.now c.args.program.now.classes c.loop-class.class-index _ c.as_slice-class-items.ensures c.loop-class-test.false c.loop-class.invariant.slots
