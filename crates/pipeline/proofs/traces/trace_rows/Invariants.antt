use Rattle.pipeline.proofs.Tracing.{Tracing}
use Rattle.pipeline.proofs.traces.trace_rows.Given as goal

abbrev pub invariant-loop-method : goal.invariant-loop-method
invariant-loop-method l = Tracing l.old l.initial.rows l.rows l.method
