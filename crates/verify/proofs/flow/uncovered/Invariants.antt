use Rattle.std.proofs.Common.{◌≡◌, replicate, None}
use Rattle.verify.proofs.flow.uncovered.Given as goal

abbrev pub invariant-loop : goal.invariant-loop
invariant-loop l = l.covering.items ≡ replicate l.counter None
