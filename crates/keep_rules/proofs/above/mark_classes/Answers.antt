use Rattle.keep_rules.proofs.FitLemmas.{read_same}
use Rattle.keep_rules.proofs.BelowLemmas.{some_none, some_then, some_end}
use Rattle.keep_rules.proofs.above.mark_classes.Goals as goal

pub loop-place-init : goal.loop-place-init
loop-place-init c = some_none c.args.program.now c.args.under.now.items c.args.kinds.now.items

pub loop-place-preserved : goal.loop-place-preserved
loop-place-preserved c = some_then c.args.program.now c.args.places.now c.loop-place.place-index _ c.args.under.now.items c.loop-place.under.items c.mark_class.new.under.items c.args.kinds.now.items c.loop-place.kinds.items c.mark_class.new.kinds.items c.loop-place-test.true (read_same c.args.places.now c.loop-place.place-index 0 c.loop-place-test.true) c.loop-place.invariant c.in_ok-mark_class.ensures

pub returns : goal.returns
returns c = some_end c.args.program.now c.args.places.now c.loop-place.place-index c.args.under.now.items c.loop-place.under.items c.args.kinds.now.items c.loop-place.kinds.items c.loop-place-test.false c.loop-place.invariant
