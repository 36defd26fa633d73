use Rattle.std.proofs.Common.{◌≡◌, ◌+◌, drop, map}
use Rattle.dex_write.specs.Plans.{plan_in}
use Rattle.dex_write.specs.Codes.{parts_of, count_codes, count_lines}
use Rattle.dex_write.proofs.codes.count_codes.Given as goal

abbrev pub invariant-loop-ordered : goal.invariant-loop-ordered
invariant-loop-ordered l = record {
  code : l.code + count_codes (parts_of (map plan_in (drop l.ordered-index l.order))) ≡ count_codes (parts_of (map plan_in l.order));
  lines : l.lines + count_lines (parts_of (map plan_in (drop l.ordered-index l.order))) ≡ count_lines (parts_of (map plan_in l.order));
}
