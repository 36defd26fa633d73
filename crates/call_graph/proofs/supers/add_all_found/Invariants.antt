use Rattle.std.proofs.Common.{◌≡◌, ◌++◌, take}
use Rattle.call_graph.specs.Objects.{all_found}
use Rattle.call_graph.proofs.supers.add_all_found.Given as goal

abbrev pub invariant-loop-place : goal.invariant-loop-place
invariant-loop-place l = l.out.items ≡ l.initial.out.items ++ all_found l.at.program.now (take l.place-index l.found)
