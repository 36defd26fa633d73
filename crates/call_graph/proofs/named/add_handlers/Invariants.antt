use Rattle.std.proofs.Common.{◌≡◌, ◌++◌, take}
use Rattle.std.specs.List.{flat_map}
use Rattle.call_graph.specs.Names.{handler_names}
use Rattle.call_graph.proofs.named.add_handlers.Given as goal

abbrev pub invariant-loop-handler : goal.invariant-loop-handler
invariant-loop-handler l = l.out.items ≡ l.initial.out.items ++ flat_map handler_names (take l.handler-index l.handlers)
