use Rattle.std.proofs.Common.{◌≡◌, List, ℕ, None, take}
use Rattle.call_graph.specs.Bases.{kind_of, last_named}
use Rattle.call_graph.proofs.bases.defined.Given as goal

abbrev pub invariant-loop-class : goal.invariant-loop-class
invariant-loop-class l = (t : List ℕ) → kind_of l.kinds t ≡ last_named l.program t None (take l.class-index l.program.classes)
