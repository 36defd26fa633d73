use Rattle.std.proofs.Common.{◌≡◌, ◌++◌, take, map, length}
use Rattle.dex_write.specs.Plans.{parameter_marks}
use Rattle.dex_write.proofs.sets.push_ref_counts.Given as goal

abbrev pub invariant-loop-method : goal.invariant-loop-method
invariant-loop-method l = l.counts.items ≡ l.fn.counts.items ++ map (λ m. length (parameter_marks l.ordered.class.now m.place)) (take l.method-index l.ordered.methods)
