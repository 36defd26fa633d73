use Rattle.flow_cfg.proofs.Nested.{IsNested}
use Rattle.flow_cfg.proofs.ends.nest.Given as goal

abbrev pub invariant-loop-head : goal.invariant-loop-head
invariant-loop-head l = IsNested l.initial.ends l.ends l.head
