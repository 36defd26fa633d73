use Rattle.std.proofs.Common.{◌≡◌, ◌++◌, drop}
use Rattle.dex_write.specs.Sets.{marks_from}
use Rattle.dex_write.proofs.marks.ordered_places.Given as goal

abbrev pub invariant-loop-place : goal.invariant-loop-place
invariant-loop-place l = l.found.items ++ marks_from l.types l.place (drop l.place l.marks) ≡ marks_from l.types 0 l.marks
