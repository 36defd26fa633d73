use Rattle.std.proofs.Common.{refl}
use Rattle.compact.proofs.Sets.{bars_more}
use Rattle.compact.proofs.places.bar_all.Goals as goal

pub loop-register-preserved : goal.loop-register-preserved
loop-register-preserved c = bars_more c.args.numbers.now c.args.met.now c.loop-register.register-index _ c.args.step c.args.marks.now.items c.loop-register.marks.items c.bar_one.new.marks.items c.loop-register-test.true refl c.loop-register.invariant c.bar_one.ensures
