use Rattle.std.proofs.Common.{◌≡◌, ◌++◌, drop, map}
use Rattle.dalvik_lookups.specs.Rising.{todo}
use Rattle.dalvik_lookups.specs.declared.starts.Visit.TheVariants.{Above}
use Rattle.dalvik_lookups.proofs.starts.Rise.push_all.Given as goal

abbrev pub invariant-loop-at : goal.invariant-loop-at
invariant-loop-at l = todo l.self ≡ map (λ c. Above c) (drop l.at l.classes) ++ todo l.initial.self
