use Rattle.std.proofs.Common.{◌≡◌, ◌++◌, drop, map}
use Rattle.std.specs.List.{flat_map}
use Rattle.dex_write.specs.Plans.{plan_in}
use Rattle.dex_write.specs.Codes.{parts_of}
use Rattle.dex_write.proofs.codes.all_lines.Given as goal

abbrev pub invariant-loop-ordered : goal.invariant-loop-ordered
invariant-loop-ordered l = l.out.items ++ flat_map (λ m. m.lines) (parts_of (map plan_in (drop l.ordered-index l.order))) ≡ flat_map (λ m. m.lines) (parts_of (map plan_in l.order))
