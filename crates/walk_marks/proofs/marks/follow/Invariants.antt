use Rattle.std.proofs.Common.{take}
use Rattle.walk_marks.specs.Steps.{Marks, Follows, Leads}
use Rattle.walk_marks.proofs.marks.follow.Given as goal

abbrev pub invariant-loop-to : goal.invariant-loop-to
invariant-loop-to g l = record {
  marks : Marks (Leads l.row (g.G.Gate.lets l.gate) l.from) l.initial.marks.items l.initial.waiting.items l.marks.items l.waiting.items;
  follows : Follows (take l.to-index l.row) (g.G.Gate.lets l.gate) l.from l.marks.items;
}
