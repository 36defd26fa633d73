use Rattle.std.proofs.Common.{◌≡◌, ◌++◌, take}
use Rattle.dalvik_lookups.specs.Reached.{constructed_kinds}
use Rattle.dalvik_lookups.proofs.outer.add_all_constructed.Given as goal

abbrev pub invariant-loop-method : goal.invariant-loop-method
invariant-loop-method l = l.kinds.items ≡ l.initial.kinds.items ++ constructed_kinds l.program (take l.method-index l.methods)
