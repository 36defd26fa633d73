use Rattle.std.proofs.Common.{◌≡◌, drop, map}
use Rattle.dex_write.specs.Plans.{plan_in}
use Rattle.dex_write.specs.Codes.{codes_behind, parts_of}
use Rattle.dex_write.proofs.codes.all_behind.Given as goal

abbrev pub invariant-loop-ordered : goal.invariant-loop-ordered
invariant-loop-ordered l = codes_behind l.next (parts_of (map plan_in (drop l.ordered-index l.order))) ≡ codes_behind l.at (parts_of (map plan_in l.order))
