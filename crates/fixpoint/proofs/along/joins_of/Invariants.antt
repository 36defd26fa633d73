use Rattle.std.proofs.Common.{◌≡◌, length}
use Rattle.fixpoint.proofs.along.joins_of.Given as goal

abbrev pub invariant-loop : goal.invariant-loop
invariant-loop l = length l.joins.items ≡ l.counter

abbrev pub invariant-loop-place : goal.invariant-loop-place
invariant-loop-place l = length l.joins.items ≡ length l.nodes
