use Rattle.std.proofs.Common.{◌≡◌, ◌++◌, take}
use Rattle.std.specs.List.{flat_map}
use Rattle.hierarchy.specs.Shapes.{IsResolved}
use Rattle.call_graph.specs.Follows.{named_facts}
use Rattle.call_graph.proofs.follow.add_all_named.Given as goal

abbrev pub invariant-loop-named : goal.invariant-loop-named
invariant-loop-named l = IsResolved l.at.program.now l.at.hierarchy.now → l.out.items ≡ l.initial.out.items ++ flat_map (named_facts l.at.program.now l.bases) (take l.named-index l.names)
