use Rattle.std.proofs.Common.{◌≡◌, ◌≤◌, ◌+◌}
use Rattle.pat_map.specs.Trees.{Inside, Fits}
use Rattle.pat_map.proofs.nodes.link.Given as goal

abbrev pub invariant-loop-a : goal.invariant-loop-a
invariant-loop-a g l = record {
  small : l.bit ≤ 32;
  apart : l.a ≡ l.b → ⊥;
  a_fits : Fits l.bit l.a;
  b_fits : Fits l.bit l.b;
  first : Inside l.bit l.a l.fn.first.value;
  second : Inside l.bit l.b l.fn.second.value;
}

abbrev pub decreases-loop-a : goal.decreases-loop-a
decreases-loop-a g l = l.a + l.b
