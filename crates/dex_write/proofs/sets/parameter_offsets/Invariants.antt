use Rattle.std.proofs.Common.{◌≡◌, ◌++◌, drop, map}
use Rattle.dex_write.specs.Plans.{plan_in}
use Rattle.dex_write.specs.Sets.{parameter_offsets}
use Rattle.dex_write.proofs.sets.parameter_offsets.Given as goal

abbrev pub invariant-loop-ordered : goal.invariant-loop-ordered
invariant-loop-ordered l = l.offsets.items ++ parameter_offsets (map plan_in (drop l.ordered-index l.order)) l.rest ≡ parameter_offsets (map plan_in l.order) l.sets
