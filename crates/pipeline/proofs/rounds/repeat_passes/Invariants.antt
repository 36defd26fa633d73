use Rattle.std.proofs.Common.{◌≡◌, ◌<◌, ◌-◌, true}
use Rattle.pipeline.specs.Changes.{total_of}
use Rattle.pipeline.specs.Graph.{IsGraph}
use Rattle.pipeline.specs.Passes.{HaveRepeated}
use Rattle.pipeline.proofs.rounds.repeat_passes.Given as goal

abbrev pub invariant-looks : goal.invariant-looks
invariant-looks l = record {
  looked : IsGraph l.fn.traced.program l.fn.graph → HaveRepeated l.admitted.methods.items l.all l.fn.traced l.left;
  some : l.changing ≡ true → 0 < total_of l.left.changes;
}

abbrev pub decreases-looks : goal.decreases-looks
decreases-looks l = 64 - l.looks
