use Rattle.std.proofs.Common.{◌≡◌, ◌++◌, ◌+◌, drop, map, length}
use Rattle.std.specs.List.{concat}
use Rattle.dex_write.specs.Numbers.{text_offsets}
use Rattle.dex_write.specs.Plans.{plan_in}
use Rattle.dex_write.specs.Sets.{directory_texts}
use Rattle.dex_write.proofs.sets.directories.Given as goal

abbrev pub invariant-loop-ordered : goal.invariant-loop-ordered
invariant-loop-ordered l = record {
  bytes : l.bytes.items ++ concat (directory_texts (map plan_in (drop l.ordered-index l.order)) l.rest l.of_methods) ≡ concat (directory_texts (map plan_in l.order) l.sets l.refs);
  offsets : l.offsets.items ++ text_offsets (l.base + length l.bytes.items) (directory_texts (map plan_in (drop l.ordered-index l.order)) l.rest l.of_methods) ≡ text_offsets l.base (directory_texts (map plan_in l.order) l.sets l.refs);
}
