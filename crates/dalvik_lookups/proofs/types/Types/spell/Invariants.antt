use Rattle.std.proofs.Common.{◌≡◌, ◌++◌, replicate}
use Rattle.dalvik_lookups.proofs.types.Types.spell.Given as goal

abbrev pub invariant-loop : goal.invariant-loop
invariant-loop l = record { brackets : l.out.items ≡ l.initial.out.items ++ replicate l.counter 91 }
