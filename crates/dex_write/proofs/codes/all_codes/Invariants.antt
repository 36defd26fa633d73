use Rattle.std.proofs.Common.{◌≡◌, ◌++◌, drop, map}
use Rattle.dex_write.specs.Plans.{plan_in}
use Rattle.dex_write.specs.Codes.{codes_text, parts_of}
use Rattle.dex_write.proofs.codes.all_codes.Given as goal

abbrev pub invariant-loop-ordered : goal.invariant-loop-ordered
invariant-loop-ordered l = l.out.items ++ codes_text l.ends.code l.ends.lines (parts_of (map plan_in (drop l.ordered-index l.order))) ≡ codes_text l.fn.from.code l.fn.from.lines (parts_of (map plan_in l.order))
