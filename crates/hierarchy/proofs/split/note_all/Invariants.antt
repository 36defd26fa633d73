use Rattle.std.proofs.Common.{◌≡◌, ℕ, Option}
use Rattle.class_defs.specs.Places.{super_place}
use Rattle.hierarchy.specs.Splitting.{TellsAll}
use Rattle.hierarchy.proofs.Splits.{NotedTo}
use Rattle.hierarchy.proofs.split.note_all.Given as goal

abbrev pub invariant-loop-method : goal.invariant-loop-method
invariant-loop-method l = (o : Option ℕ) → super_place l.program l.class ≡ o → TellsAll l.program l.keys l.special o l.fn.above → NotedTo l.program l.keys l.special o l.class l.method-items l.method-index l.map
