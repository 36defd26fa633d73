use Rattle.std.proofs.Common.{◌≡◌, take, map}
use Rattle.dex_write.specs.Lists.{used_offset}
use Rattle.dex_write.proofs.lists.used_offsets.Given as goal

abbrev pub invariant-loop-index : goal.invariant-loop-index
invariant-loop-index l = l.offsets.items ≡ map (used_offset l.starts) (take l.index-index l.uses)
