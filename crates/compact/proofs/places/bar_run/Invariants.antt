use Rattle.std.proofs.Common.{length}
use Rattle.compact.specs.Placed.{Sets, BarsRun}
use Rattle.compact.proofs.places.bar_run.Given as goal

abbrev pub invariant-loop-step : goal.invariant-loop-step
invariant-loop-step l = Sets (BarsRun l.clash l.numbers (length l.numbers) l.step) l.initial.marks.items l.marks.items
