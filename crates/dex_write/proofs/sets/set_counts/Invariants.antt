use Rattle.std.proofs.Common.{◌≡◌, take, map}
use Rattle.std.specs.List.{flat_map}
use Rattle.dex_write.specs.Plans.{plan_in}
use Rattle.dex_write.specs.Sets.{set_counts}
use Rattle.dex_write.proofs.sets.set_counts.Given as goal

abbrev pub invariant-loop-ordered : goal.invariant-loop-ordered
invariant-loop-ordered l = l.counts.items ≡ flat_map set_counts (map plan_in (take l.ordered-index l.order))
