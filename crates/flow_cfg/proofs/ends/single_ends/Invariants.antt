use Rattle.flow_cfg.proofs.Nested.{AreSingle}
use Rattle.flow_cfg.proofs.ends.single_ends.Given as goal

abbrev pub invariant-loop : goal.invariant-loop
invariant-loop l = AreSingle l.ends.items l.end l.index
