use Rattle.std.proofs.Common.{take}
use Rattle.compact.specs.Placed.{Sets, Bars}
use Rattle.compact.proofs.places.bar_all.Given as goal

abbrev pub invariant-loop-register : goal.invariant-loop-register
invariant-loop-register l = Sets (Bars l.numbers (take l.register-index l.met) l.step) l.initial.marks.items l.marks.items
