use Rattle.std.proofs.Common.{take}
use Rattle.std.specs.List.{flat_map}
use Rattle.dex_write.specs.Sets.{ordered_marks, Added}
use Rattle.dex_write.proofs.marks.push_sets.Given as goal

abbrev pub invariant-loop-marks : goal.invariant-loop-marks
invariant-loop-marks l = Added l.numbers (flat_map (ordered_marks l.numbers) (take l.marks-index l.sets)) l.fn.out.bytes.items l.fn.out.starts.items l.out.bytes.items l.out.starts.items
