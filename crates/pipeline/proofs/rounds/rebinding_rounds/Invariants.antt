use Rattle.std.proofs.Common.{◌≡◌, ◌≤◌, ◌+◌, min}
use Rattle.const_prop.specs.Measure.{open_forms}
use Rattle.pipeline.specs.Changes.{bulk_of, total_of}
use Rattle.pipeline.specs.Rounds.{Rounding}
use Rattle.pipeline.proofs.RoundLemmas.{counted_first, left_to_rebind}
use Rattle.pipeline.proofs.rounds.rebinding_rounds.Given as goal

abbrev pub invariant-rounds : goal.invariant-rounds
invariant-rounds l = record {
  count : 1 ≤ l.rounds;
  settled : l.left.changes.removed ≡ 0 → l.left.changes.folded ≡ 0 → l.left.changes.rebound ≡ 0 → total_of l.left.changes ≡ 0;
  rounding : Rounding l.outside l.admitted.methods.items l.fn.traced l.left l.rounds;
  less : bulk_of l.left.traced.program + min l.left.changes.removed 1 ≤ bulk_of l.fn.traced.program;
  plainer : l.left.changes.removed ≡ 0 → open_forms l.left.traced.program + min l.left.changes.folded 1 ≤ open_forms l.fn.traced.program;
}

abbrev pub decreases-rounds : goal.decreases-rounds
decreases-rounds l = left_to_rebind (counted_first l.left) l.left
