use Rattle.std.proofs.Common.{rules}
use Rattle.if_text.proofs.Loops.{names_more}
use Rattle.if_text.proofs.slots.push_names.Goals as goal

pub loop-place-preserved : goal.loop-place-preserved
loop-place-preserved c = names_more c.loop-place.place c.args.out.now.items c.loop-place.out.items _ c.loop-place.invariant (search rules)
