use Rattle.std.proofs.Common.{take}
use Rattle.dex_read.specs.Standing.{MarksPlain}
use Rattle.dex_read.proofs.standing.plain_types.Given as goal

abbrev pub invariant-loop-class : goal.invariant-loop-class
invariant-loop-class l = MarksPlain (take l.class-index l.classes) l.marks.items
