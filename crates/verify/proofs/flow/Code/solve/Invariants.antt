use Rattle.std.proofs.Common.{◌+◌, length}
use Rattle.verify.specs.Flow.{flowing_of, places_of}
use Rattle.verify.specs.Frames.{kinds_of}
use Rattle.verify.specs.Waiting.{queue_of}
use Rattle.verify.proofs.Solves.{Solves}
use Rattle.verify.proofs.Weights.{weight}
use Rattle.verify.proofs.flow.Code.solve.Given as goal

abbrev pub invariant-loop-position : goal.invariant-loop-position
invariant-loop-position l = Solves l.self.setting.now l.self.body.now l.self.covering.now (kinds_of l.fn.entry) (flowing_of l.states) (queue_of l.states.arrivals)

abbrev pub decreases-loop-position : goal.decreases-loop-position
decreases-loop-position l = weight l.self.setting.now.tables.now l.self.body.now.registers (places_of l.states.arrivals.positions.items) + length (queue_of l.states.arrivals)
