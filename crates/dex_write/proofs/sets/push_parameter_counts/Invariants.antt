use Rattle.std.proofs.Common.{◌≡◌, ◌++◌, take, map, length}
use Rattle.std.specs.List.{flat_map}
use Rattle.dex_write.specs.Plans.{parameter_marks}
use Rattle.dex_write.proofs.sets.push_parameter_counts.Given as goal

abbrev pub invariant-loop-method : goal.invariant-loop-method
invariant-loop-method l = l.counts.items ≡ l.fn.counts.items ++ flat_map (λ m. map length (parameter_marks l.class m.place)) (take l.method-index l.methods)
