use Rattle.std.proofs.Common.{◌≡◌, ◌++◌, drop, map}
use Rattle.dalvik_lookups.specs.Tables.{kind_in}
use Rattle.dalvik_state.proofs.state.Tables.add_kinds.Given as goal

abbrev pub invariant-loop-number : goal.invariant-loop-number
invariant-loop-number l = l.kinds.items ++ map (kind_in l.self.lookups.kinds.items) (drop l.number-index l.numbers) ≡ l.initial.kinds.items ++ map (kind_in l.self.lookups.kinds.items) l.numbers
