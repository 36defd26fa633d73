use Rattle.std.proofs.Common.{◌≡◌, take}
use Rattle.std.specs.List.{flat_map}
use Rattle.dex_pools.specs.Used.{marked, handler_names}
use Rattle.dex_pools.proofs.classes.walk_handlers.Given as goal

abbrev pub invariant-loop-handler : goal.invariant-loop-handler
invariant-loop-handler l = l.used ≡ marked l.fn.used (flat_map handler_names (take l.handler-index l.handlers))
