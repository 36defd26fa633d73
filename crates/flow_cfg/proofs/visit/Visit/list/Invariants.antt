use Rattle.std.proofs.Common.{vec_len}
use Rattle.flow_cfg.proofs.visit.Visit.list.Given as goal

abbrev pub decreases-loop-node : goal.decreases-loop-node
decreases-loop-node l = vec_len l.self.unsettled
