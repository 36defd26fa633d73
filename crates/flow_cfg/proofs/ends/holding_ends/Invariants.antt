use Rattle.flow_cfg.proofs.Nested.{HoldsSoFar}
use Rattle.flow_cfg.proofs.ends.holding_ends.Given as goal

abbrev pub invariant-loop-from : goal.invariant-loop-from
invariant-loop-from l = HoldsSoFar l.places l.ends.items l.edges l.from-index
