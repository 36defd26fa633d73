use Rattle.std.proofs.Common.{◌≡◌, ◌++◌, drop, map}
use Rattle.dex_write.specs.Plans.{plan_in}
use Rattle.dex_write.specs.Lists.{lists_in, class_use, all_lists, indexes_of}
use Rattle.dex_write.proofs.lists.know_interfaces.Given as goal

abbrev pub invariant-loop-ordered : goal.invariant-loop-ordered
invariant-loop-ordered l = record {
  lists : all_lists (lists_in l.known.keys) (map (class_use l.types) (map plan_in (drop l.ordered-index l.order))) ≡ all_lists (lists_in l.fn.known.keys) (map (class_use l.types) (map plan_in l.order));
  uses : l.uses.items ++ indexes_of (lists_in l.known.keys) (map (class_use l.types) (map plan_in (drop l.ordered-index l.order))) ≡ indexes_of (lists_in l.fn.known.keys) (map (class_use l.types) (map plan_in l.order));
}
