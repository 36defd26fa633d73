use Rattle.std.proofs.Common.{◌≡◌, ◌++◌, drop, map}
use Rattle.dex_write.specs.Plans.{plan_in}
use Rattle.dex_write.specs.Tables.{class_words}
use Rattle.dex_write.proofs.tables.push_classes.Given as goal

abbrev pub invariant-loop-place : goal.invariant-loop-place
invariant-loop-place l = l.out.items ++ class_words l.numbers l.offsets l.place (map plan_in (drop l.place l.order)) ≡ l.fn.out.items ++ class_words l.numbers l.offsets 0 (map plan_in l.order)
