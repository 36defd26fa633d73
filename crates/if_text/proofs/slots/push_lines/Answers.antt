use Rattle.std.proofs.Common.{rules}
use Rattle.if_text.proofs.Loops.{adds_next}
use Rattle.if_text.proofs.slots.push_lines.Goals as goal

pub loop-preserved : goal.loop-preserved
loop-preserved c = adds_next c.args.start c.loop.counter c.args.out.now.items c.loop.out.items _ c.loop.invariant (search rules)
