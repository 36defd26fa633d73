use Rattle.std.proofs.Common.{◌≡◌, take, map, length, sum}
use Rattle.dex_write.specs.Plans.{parameter_marks}
use Rattle.dex_write.proofs.sets.parameter_count.Given as goal

abbrev pub invariant-loop-method : goal.invariant-loop-method
invariant-loop-method l = l.count ≡ sum (map (λ m. length (parameter_marks l.ordered.class.now m.place)) (take l.method-index l.ordered.methods))
