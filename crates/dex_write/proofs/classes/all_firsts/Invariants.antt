use Rattle.std.proofs.Common.{◌≡◌, ◌++◌, ◌+◌, drop, map, length}
use Rattle.std.specs.List.{concat}
use Rattle.dex_write.specs.Numbers.{text_offsets}
use Rattle.dex_write.specs.Plans.{plan_in}
use Rattle.dex_write.specs.Data.{array_text}
use Rattle.dex_write.proofs.classes.all_firsts.Given as goal

abbrev pub invariant-loop-ordered : goal.invariant-loop-ordered
invariant-loop-ordered l = record {
  bytes : l.bytes.items ++ concat (map (array_text l.program l.numbers) (map plan_in (drop l.ordered-index l.order))) ≡ concat (map (array_text l.program l.numbers) (map plan_in l.order));
  offsets : l.offsets.items ++ text_offsets (l.base + length l.bytes.items) (map (array_text l.program l.numbers) (map plan_in (drop l.ordered-index l.order))) ≡ text_offsets l.base (map (array_text l.program l.numbers) (map plan_in l.order));
}
