use Rattle.std.proofs.Common.{take, map}
use Rattle.std.specs.List.{flat_map}
use Rattle.dex_write.specs.Plans.{plan_in}
use Rattle.dex_write.specs.Order.{classes_at}
use Rattle.dex_write.specs.Written.{ArePlans}
use Rattle.dex_write.proofs.writer.order_classes.Given as goal

abbrev pub invariant-loop-place : goal.invariant-loop-place
invariant-loop-place l = ArePlans l.program l.numbers (flat_map (classes_at l.program) (take l.place-index l.places)) (map plan_in l.order.items)
