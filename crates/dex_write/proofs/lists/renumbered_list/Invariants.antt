use Rattle.std.proofs.Common.{◌≡◌, take, map}
use Rattle.dex_pools.specs.Written.{renumbered}
use Rattle.dex_write.proofs.lists.renumbered_list.Given as goal

abbrev pub invariant-loop-kind : goal.invariant-loop-kind
invariant-loop-kind l = l.list.items ≡ map (renumbered l.types) (take l.kind-index l.kinds)
