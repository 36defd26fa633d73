use Rattle.std.proofs.Common.{◌≡◌, replicate}
use Rattle.quiet_methods.specs.Owning.{no_node}
use Rattle.quiet_methods.proofs.methods.no_nodes.Given as goal

abbrev pub invariant-loop : goal.invariant-loop
invariant-loop l = l.nodes.items ≡ replicate l.counter no_node
