use Rattle.std.proofs.Common.{take, Contains}
use Rattle.walk_marks.specs.Steps.{Marks, AreOn}
use Rattle.walk_marks.proofs.marks.begin.Given as goal

abbrev pub invariant-loop-seed : goal.invariant-loop-seed
invariant-loop-seed l = record {
  marks : Marks (Contains l.seeds) l.initial.marks.items l.initial.waiting.items l.marks.items l.waiting.items;
  on : AreOn (take l.seed-index l.seeds) l.marks.items;
}
