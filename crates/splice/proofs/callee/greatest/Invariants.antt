use Rattle.std.proofs.Common.{◌≡◌, drop}
use Rattle.std.specs.Prelude.{max}
use Rattle.splice.specs.Callees.{greatest}
use Rattle.splice.proofs.callee.greatest.Given as goal

abbrev pub invariant-loop-callee : goal.invariant-loop-callee
invariant-loop-callee l = max l.most (greatest (drop l.callee-index l.chosen)) ≡ greatest l.chosen
