use Rattle.std.proofs.Common.{◌≡◌, ◌++◌, drop}
use Rattle.body_graph.specs.Graph.{within}
use Rattle.body_graph.proofs.edges.add_all.Given as goal

abbrev pub invariant-loop-number : goal.invariant-loop-number
invariant-loop-number l = l.row.items ++ within l.count (drop l.number-index l.numbers) ≡ l.initial.row.items ++ within l.count l.numbers
