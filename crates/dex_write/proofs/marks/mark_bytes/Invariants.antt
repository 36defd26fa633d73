use Rattle.std.proofs.Common.{take, map, []}
use Rattle.std.specs.List.{flat_map}
use Rattle.dex_write.specs.Plans.{plan_in}
use Rattle.dex_write.specs.Sets.{marks_of, Added}
use Rattle.dex_write.proofs.marks.mark_bytes.Given as goal

abbrev pub invariant-loop-ordered : goal.invariant-loop-ordered
invariant-loop-ordered l = Added l.numbers (flat_map (marks_of l.numbers) (map plan_in (take l.ordered-index l.order))) [] [] l.out.bytes.items l.out.starts.items
