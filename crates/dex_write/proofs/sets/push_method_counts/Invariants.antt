use Rattle.std.proofs.Common.{◌≡◌, ◌++◌, take, map, length}
use Rattle.dex_write.specs.Plans.{method_marks}
use Rattle.dex_write.proofs.sets.push_method_counts.Given as goal

abbrev pub invariant-loop-method : goal.invariant-loop-method
invariant-loop-method l = l.counts.items ≡ l.fn.counts.items ++ map (λ m. length (method_marks l.class m.place)) (take l.method-index l.methods)
