use Rattle.std.proofs.Common.{◌≡◌, ◌≤◌, ◌++◌, ◌-◌}
use Rattle.hierarchy.proofs.Listed.{others_to}
use Rattle.hierarchy.proofs.queries.add_others.Given as goal

abbrev pub invariant-loop-number : goal.invariant-loop-number
invariant-loop-number l = record {
  are : l.out.items ≡ l.initial.out.items ++ others_to l.places l.class l.fn.range.first (l.number - l.fn.range.first);
  none : l.fn.range.end ≤ l.fn.range.first → l.number ≡ l.fn.range.first;
}
