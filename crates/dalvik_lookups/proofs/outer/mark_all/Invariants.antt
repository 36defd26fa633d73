use Rattle.std.proofs.Common.{take}
use Rattle.dalvik_lookups.specs.Reached.{MarksMore}
use Rattle.dalvik_lookups.proofs.outer.mark_all.Given as goal

abbrev pub invariant-loop-number : goal.invariant-loop-number
invariant-loop-number l = record { marks : MarksMore l.fn.marks (take l.number-index l.numbers) l.marks }
