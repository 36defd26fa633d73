use Rattle.std.proofs.Common.{◌≡◌, ◌+◌, ◌≤◌, min}
use Rattle.pipeline.specs.Changes.{bulk_of, total_of}
use Rattle.pipeline.specs.Rounds.{Rounding}
use Rattle.pipeline.proofs.rounds.all_rounds.Given as goal

abbrev pub invariant-rounds : goal.invariant-rounds
invariant-rounds l = record {
  count : 1 ≤ l.rounds;
  settled : l.left.changes.removed ≡ 0 → total_of l.left.changes ≡ 0;
  rounding : Rounding l.outside l.admitted.methods.items l.fn.first l.left l.rounds;
}

abbrev pub decreases-rounds : goal.decreases-rounds
decreases-rounds l = bulk_of l.left.traced.program + min l.left.changes.removed 1
