use Rattle.std.proofs.Common.{get_or, map, arith}
use Rattle.dex_write.specs.Order.{classes_at}
use Rattle.dex_write.proofs.Files.{planned_take}
use Rattle.dex_write.specs.Plans.{plan_in}
use Rattle.dex_write.proofs.OnlyLemmas.{only_plans}
use Rattle.dex_write.proofs.TakeLemmas.{by_itself}
use Rattle.dex_write.proofs.writer.order_classes.Goals as goal

pub loop-place-preserved : goal.loop-place-preserved
loop-place-preserved c = planned_take c.args.program.now c.args.numbers.now (classes_at c.args.program.now) c.args.places.now c.loop-place.place-index (get_or c.args.places.now c.loop-place.place-index 0) _ _ c.loop-place-test.true (by_itself c.args.places.now c.loop-place.place-index 0 c.loop-place-test.true) c.loop-place.invariant c.in_ok-push_class.ensures

pub returns-clause-only : goal.returns-clause-only
returns-clause-only c = only_plans c.args.program.now c.args.numbers.now c.args.places.now c.loop-place.place-index (map plan_in c.loop-place.order.items) (omega arith) c.loop-place.invariant
