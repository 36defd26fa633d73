use Rattle.std.proofs.Common.{◌≡◌, ◌++◌, drop, map}
use Rattle.body_graph.specs.Graph.{within}
use Rattle.body_graph.proofs.edges.handler_row.Given as goal

abbrev pub invariant-loop-handler : goal.invariant-loop-handler
invariant-loop-handler l = l.row.items ++ within l.count (map (λ h. h.position) (drop l.handler-index l.region.handlers)) ≡ within l.count (map (λ h. h.position) l.region.handlers)
