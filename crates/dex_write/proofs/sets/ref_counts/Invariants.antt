use Rattle.std.proofs.Common.{◌≡◌, take, map}
use Rattle.std.specs.List.{flat_map}
use Rattle.dex_write.specs.Plans.{plan_in}
use Rattle.dex_write.specs.Sets.{ref_counts}
use Rattle.dex_write.proofs.sets.ref_counts.Given as goal

abbrev pub invariant-loop-ordered : goal.invariant-loop-ordered
invariant-loop-ordered l = l.counts.items ≡ flat_map ref_counts (map plan_in (take l.ordered-index l.order))
