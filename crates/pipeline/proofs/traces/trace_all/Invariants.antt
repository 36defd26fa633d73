use Rattle.std.proofs.Common.{◌≡◌, map, take, drop, ◌++◌}
use Rattle.pipeline.specs.Origins.{origin_by}
use Rattle.pipeline.proofs.traces.trace_all.Given as goal

abbrev pub invariant-loop-origin : goal.invariant-loop-origin
invariant-loop-origin l = l.origins ≡ map (origin_by l.old) (take l.origin-index l.initial.origins) ++ drop l.origin-index l.initial.origins
