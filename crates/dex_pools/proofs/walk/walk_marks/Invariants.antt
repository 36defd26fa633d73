use Rattle.std.proofs.Common.{◌≡◌, take}
use Rattle.std.specs.List.{flat_map}
use Rattle.dex_pools.specs.Used.{marked, mark_names}
use Rattle.dex_pools.proofs.walk.walk_marks.Given as goal

abbrev pub invariant-loop-mark : goal.invariant-loop-mark
invariant-loop-mark l = l.used ≡ marked l.fn.used (flat_map mark_names (take l.mark-index l.marks))
