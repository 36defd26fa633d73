use Rattle.std.proofs.Common.{take, slice_get}
use Rattle.std.specs.List.{flat_map}
use Rattle.dex_write.specs.Sets.{mark_list, Added}
use Rattle.dex_write.proofs.marks.push_places.Given as goal

abbrev pub invariant-loop-place : goal.invariant-loop-place
invariant-loop-place l = Added l.numbers (flat_map (λ n. mark_list (slice_get l.marks n.1)) (take l.place-index l.places)) l.fn.out.bytes.items l.fn.out.starts.items l.out.bytes.items l.out.starts.items
