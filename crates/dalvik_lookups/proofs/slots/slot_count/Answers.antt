use Rattle.std.proofs.Common.{take}
use Rattle.dalvik_lookups.proofs.Slotted.{one_more, after_more, after_all}
use Rattle.dalvik_lookups.proofs.slots.slot_count.Goals as goal

pub loop-class-preserved : goal.loop-class-preserved
loop-class-preserved c =
    let s = one_more c.as_slice-class-items.result.now c.args.program.now.classes c.loop-class.class-index c.class-item.result c.as_slice-class-items.ensures c.loop-class-test.true c.class-item.is in
    record { count = after_more (take c.loop-class.class-index c.args.program.now.classes) _ c.class-item.result c.loop-class.count _ c.len.result s c.loop-class.invariant.count c.len.ensures c.saturating_add-count.ensures }

pub returns : goal.returns
returns c = after_all c.as_slice-class-items.result.now c.args.program.now.classes c.loop-class.class-index _ c.as_slice-class-items.ensures c.loop-class-test.false c.loop-class.invariant.count
